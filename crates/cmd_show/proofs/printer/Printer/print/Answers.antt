use Rattle.cmd_show.proofs.PictureLaws.{keeps_both}
use Rattle.cmd_show.proofs.printer.Printer.print.Goals as goal

pub returns-then-eq-clause-lines : goal.returns-then-eq-clause-lines
returns-then-eq-clause-lines g c =
    keeps_both _ _ _ _ _ _ (keeps_both _ _ _ _ _ _ c.in_ok-outcome.ensures.lines c.in_ok-end_line.ensures.lines) c.in_ok-write.ensures.lines

pub returns-else-eq-clause-lines : goal.returns-else-eq-clause-lines
returns-else-eq-clause-lines g c =
    keeps_both _ _ _ _ _ _ (keeps_both _ _ _ _ _ _ c.in_ok-outcome.ensures.lines c.in_ok-end_line.ensures.lines) c.in_ok-write.ensures.lines
