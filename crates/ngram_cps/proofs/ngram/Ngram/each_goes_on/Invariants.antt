use Rattle.machine_text.specs.Terms.{entry_of}
use Rattle.ngram_cps.specs.Lists.{lists_of}
use Rattle.ngram_cps.specs.inside.{EachGoesOn}
use Rattle.ngram_cps.proofs.ngram.Ngram.each_goes_on.Given as goal

abbrev pub invariant-loop-k : goal.invariant-loop-k
invariant-loop-k l = EachGoesOn (entry_of l.t) (lists_of l.self) l.k
