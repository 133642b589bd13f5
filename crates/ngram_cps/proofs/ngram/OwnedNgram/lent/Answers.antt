use Rattle.std.proofs.Common.{rules}
use Rattle.ngram_cps.proofs.ngram.OwnedNgram.lent.Goals as goal

-- answered by name, so that nothing is offered where an edit makes it false
pub invariant_of-result-2 : goal.invariant_of-result-2
invariant_of-result-2 c = search rules steps 1000000

pub invariant_of-result-3 : goal.invariant_of-result-3
invariant_of-result-3 c = search rules steps 1000000

pub invariant_of-result-4 : goal.invariant_of-result-4
invariant_of-result-4 c = search rules steps 1000000

pub returns : goal.returns
returns c = search rules steps 100000
