use Rattle.ngram_cps.specs.Words.{AreWords}
use Rattle.ngram_cps.proofs.lists.word_list.Given as goal

abbrev pub invariant-loop-k : goal.invariant-loop-k
invariant-loop-k l = AreWords l.width l.k l.text
