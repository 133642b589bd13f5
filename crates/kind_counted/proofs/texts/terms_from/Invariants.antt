use Rattle.std.proofs.Common.{length}
use Rattle.kind_counted.proofs.ReadTexts.{ArePut}
use Rattle.kind_counted.proofs.texts.terms_from.Given as goal

abbrev pub decreases-terms : goal.decreases-terms
decreases-terms l = length l.terms

abbrev pub invariant-terms : goal.invariant-terms
invariant-terms l = ArePut l.limit l.low l.numbers l.terms l.initial.terms
