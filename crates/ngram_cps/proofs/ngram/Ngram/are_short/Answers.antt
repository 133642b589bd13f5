use Rattle.std.proofs.Common.{rules}
use Rattle.ngram_cps.proofs.ngram.Ngram.are_short.Goals as goal

-- answered by name, so that nothing is offered where an edit makes it false
pub returns-then-right-left : goal.returns-then-right-left
returns-then-right-left c = search rules steps 100000
