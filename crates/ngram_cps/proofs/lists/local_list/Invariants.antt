use Rattle.ngram_cps.specs.Words.{AreLocals}
use Rattle.ngram_cps.proofs.lists.local_list.Given as goal

abbrev pub invariant-loop-k : goal.invariant-loop-k
invariant-loop-k l = AreLocals l.states l.width l.k l.text
