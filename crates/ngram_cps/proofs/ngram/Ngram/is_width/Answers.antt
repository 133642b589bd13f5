use Rattle.std.proofs.Common.{rules}
use Rattle.ngram_cps.proofs.ngram.Ngram.is_width.Goals as goal

-- answered by name, so that nothing is offered where an edit makes it false
pub returns-then-width-ge1 : goal.returns-then-width-ge1
returns-then-width-ge1 c = search rules steps 100000
