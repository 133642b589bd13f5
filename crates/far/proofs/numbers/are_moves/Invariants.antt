use Rattle.std.proofs.Common.{◌≡◌, false, length}
use Rattle.far.specs.ListedTexts.{numbers_in, has_count}
use Rattle.far.proofs.numbers.are_moves.Given as goal

abbrev pub decreases-parts : goal.decreases-parts
decreases-parts l = length l.parts

abbrev pub invariant-parts : goal.invariant-parts
invariant-parts l = has_count (numbers_in false 0 l.limit l.parts) l.left ≡ has_count (numbers_in false 0 l.limit l.initial.parts) l.count
