use Rattle.std.proofs.Common.{◌≡◌, length}
use Rattle.far.specs.ListedTexts.{rows_in, has_count}
use Rattle.far.proofs.numbers.are_rows.Given as goal

abbrev pub decreases-parts : goal.decreases-parts
decreases-parts l = length l.parts

abbrev pub invariant-parts : goal.invariant-parts
invariant-parts l = has_count (rows_in l.last l.parts) l.left ≡ has_count (rows_in l.last l.initial.parts) l.count
