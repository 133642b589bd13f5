use Rattle.std.proofs.Common.{length}
use Rattle.text.specs.Terms.{parts_of}
use Rattle.kind_counted.proofs.ReadTexts.{IsCounted}
use Rattle.kind_counted.proofs.texts.half_states.Given as goal

abbrev pub decreases-parts : goal.decreases-parts
decreases-parts l = length l.parts

abbrev pub invariant-parts : goal.invariant-parts
invariant-parts l = IsCounted l.parts (parts_of 44 l.text) l.count
