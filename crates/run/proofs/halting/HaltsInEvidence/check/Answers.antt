use Rattle.std.proofs.Common.{rules}
use Rattle.run.proofs.halting.HaltsInEvidence.check.Goals as goal

-- answered by name, so that nothing is offered where an edit makes it false
pub returns-clause-fails : goal.returns-clause-fails
returns-clause-fails c = search rules steps 1000000
