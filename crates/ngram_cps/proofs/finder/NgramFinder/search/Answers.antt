use Rattle.std.proofs.Common.{rules}
use Rattle.ngram_cps.proofs.finder.NgramFinder.search.Goals as goal

-- answered by name, so that nothing is offered where an edit makes it false
pub returns-then-is_some-clause-width : goal.returns-then-is_some-clause-width
returns-then-is_some-clause-width c = search rules steps 1000000
