use Rattle.cmd_show.proofs.PictureLaws.{keeps_both, ok_then}
use Rattle.cmd_show.proofs.printer.Printer.show_rows.Goals as goal

-- the line before a row ends
pub each-preserved : goal.each-preserved
each-preserved g c = keeps_both _ _ _ _ _ _ c.each.invariant c.in_ok-end_line.ensures.lines

pub returns-clause-lines : goal.returns-clause-lines
returns-clause-lines g c = ok_then c.end_run.result (λ ended. keeps_both _ _ _ _ _ _ c.each.invariant ended) c.end_run.ensures.lines
