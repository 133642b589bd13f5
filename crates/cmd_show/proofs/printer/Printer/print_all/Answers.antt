use Rattle.cmd_show.proofs.PictureLaws.{keeps_all, keeps_both}
use Rattle.cmd_show.proofs.printer.Printer.print_all.Goals as goal

pub lines-init : goal.lines-init
lines-init g c = keeps_all _ _

pub lines-preserved : goal.lines-preserved
lines-preserved g c = keeps_both _ _ _ _ _ _ c.lines.invariant c.in_ok-print.ensures.lines

pub returns-clause-lines : goal.returns-clause-lines
returns-clause-lines g c = c.lines.invariant
