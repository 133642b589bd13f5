use Rattle.std.proofs.Common.{◌≡◌, length}
use Rattle.far.specs.ListedTexts.{numbers_in}
use Rattle.far.proofs.WellRead.{before}
use Rattle.far.proofs.listed_reading.read_numbers.Given as goal

abbrev pub decreases-parts : goal.decreases-parts
decreases-parts l = length l.parts

abbrev pub invariant-parts : goal.invariant-parts
invariant-parts l = before l.numbers.items (numbers_in l.rising l.low l.limit l.parts) ≡ numbers_in l.rising 0 l.limit l.initial.parts
