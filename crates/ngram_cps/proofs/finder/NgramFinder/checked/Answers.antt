use Rattle.std.proofs.Common.{rules}
use Rattle.ngram_cps.proofs.finder.NgramFinder.checked.Goals as goal

-- answered by name, so that nothing is offered where an edit makes it false
pub returns-clause-found : goal.returns-clause-found
returns-clause-found c = search rules
