use Rattle.std.proofs.Common.{◌≡◌, replicate}
use Rattle.ngram_cps.proofs.closure.zeros.Given as goal

abbrev pub invariant-loop-i : goal.invariant-loop-i
invariant-loop-i l = l.word ≡ replicate l.i 48
