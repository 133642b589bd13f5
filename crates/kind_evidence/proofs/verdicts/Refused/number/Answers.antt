use Rattle.std.proofs.Common.{rules}
use Rattle.kind_evidence.proofs.verdicts.Refused.number.Goals as goal

-- answered by name, so that nothing is offered where an edit makes it false
pub returns-in-TooLong : goal.returns-in-TooLong
returns-in-TooLong c = search rules steps 100000
