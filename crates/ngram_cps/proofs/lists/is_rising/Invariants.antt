use Rattle.ngram_cps.specs.inside.{RisesTo}
use Rattle.ngram_cps.proofs.lists.is_rising.Given as goal

abbrev pub invariant-loop-k : goal.invariant-loop-k
invariant-loop-k l = RisesTo l.width l.k l.text
