use Rattle.std.proofs.Common.{◌≡◌, true, length}
use Rattle.std.specs.Prelude.{is_some}
use Rattle.far.specs.ListedTexts.{numbers_in}
use Rattle.far.proofs.numbers.are_numbers.Given as goal

abbrev pub decreases-parts : goal.decreases-parts
decreases-parts l = length l.parts

abbrev pub invariant-parts : goal.invariant-parts
invariant-parts l = is_some (numbers_in true l.low l.limit l.parts) ≡ is_some (numbers_in true 0 l.limit l.initial.parts)
