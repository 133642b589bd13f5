use Rattle.std.proofs.Common.{◌≡◌}
use Rattle.ngram_cps.proofs.finder.NgramFinder.search.Given as goal

abbrev pub invariant-loop-symbols : goal.invariant-loop-symbols
invariant-loop-symbols l = l.self.width ≡ l.fn.self.width
