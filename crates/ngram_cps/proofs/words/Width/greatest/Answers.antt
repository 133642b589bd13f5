use Rattle.std.proofs.Common.{rules}
use Rattle.ngram_cps.proofs.words.Width.greatest.Goals as goal

-- answered by name, so that nothing is offered where an edit makes it false
pub overflow_shr-result : goal.overflow_shr-result
overflow_shr-result c = search rules steps 100000
