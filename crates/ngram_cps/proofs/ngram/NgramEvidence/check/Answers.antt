use Rattle.std.proofs.Common.{rules}
use Rattle.ngram_cps.proofs.ngram.NgramEvidence.check.Goals as goal

-- answered by name, so that nothing is offered where an edit makes it false
pub returns-else-holds-clause-fails : goal.returns-else-holds-clause-fails
returns-else-holds-clause-fails c = search rules steps 1000000
