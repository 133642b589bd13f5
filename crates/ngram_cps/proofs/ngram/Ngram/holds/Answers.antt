use Rattle.std.proofs.Common.{rules}
use Rattle.ngram_cps.proofs.ngram.Ngram.holds.Goals as goal

-- answered by name, so that nothing is offered where an edit makes it false
pub is_closed-requires : goal.is_closed-requires
is_closed-requires c = search rules steps 100000
