use Rattle.std.proofs.Common.{◌≡◌, length}
use Rattle.text.specs.Terms.{parts_of}
use Rattle.far.specs.ListedTexts.{rows_in}
use Rattle.far.proofs.WellRead.{before}
use Rattle.far.proofs.listed_reading.rows_of.Given as goal

abbrev pub decreases-parts : goal.decreases-parts
decreases-parts l = length l.parts

abbrev pub invariant-parts : goal.invariant-parts
invariant-parts l = before l.rows (rows_in l.last l.parts) ≡ rows_in l.last (parts_of 44 l.text)
