use Rattle.std.proofs.Common.{◌∙◌, refl, arith, rules}
use Rattle.std.specs.Int.{w64}
use Rattle.std.specs.Int.RustNames.{FitsSigned}
use Rattle.std.proofs.lemmas.Int.{ints, to_z-of_z}
use Rattle.tape.proofs.Halves.{SameBeyond-second}
use Rattle.tape.proofs.tape.Tape.same_half.Goals as goal

pub returns-then-ones_are_in : goal.returns-then-ones_are_in
returns-then-ones_are_in c =
    let fits : FitsSigned w64 c.saturating_add.result = search rules in
    let fits_from : FitsSigned w64 c.args.from = c.ranges.from in
    let fits_shift : FitsSigned w64 c.args.shift = c.ranges.shift in
    let there = simp to_z-of_z at c.if-ones_are_in.ensures.ones in
    let begin = simp to_z-of_z at c.saturating_add.ensures in
    let second = c.ones_are_in-then-ones_are_in.ensures in
    SameBeyond-second _ _ _ _ _ _ _ _ (there.0 refl) second.reached second.ones (to_z-of_z w64 c.saturating_add.result fits ∙ begin) (omega (arith, ints))
