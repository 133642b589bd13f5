use Rattle.text.proofs.Cuts.{line_has_newline, same_line}
use Rattle.cmd_ledgers.proofs.mend.behind_header.Goals as goal

pub returns-in-Some : goal.returns-in-Some
returns-in-Some c root rest header = (same_line c.in-Some.ensures.some header.line).1

pub returns-in-None : goal.returns-in-None
returns-in-None c root rest header = absurd (line_has_newline header.line c.in-None.ensures.none)
