use Rattle.std.proofs.Common.{rules}
use Rattle.far.proofs.far.FarEvidence.check.Goals as goal

-- answered by name, so that nothing is offered where an edit makes it false
pub returns-else-holds-clause-fails : goal.returns-else-holds-clause-fails
returns-else-holds-clause-fails c = search rules steps 100000
