use Rattle.std.proofs.Common.{rules}
use Rattle.text.proofs.Cuts.{line_has_newline}
use Rattle.cmd_ledgers.proofs.reading.has_newline.Goals as goal

pub returns-in-Some : goal.returns-in-Some
returns-in-Some c = (λ is none. line_has_newline c.in-Some.ensures.some none, λ some. search rules)
