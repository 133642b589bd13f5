use Rattle.std.proofs.Common.{◌+ℤ◌, pos, ◌^◌, refl, subst, arith, inl, inr, ◌<ℤ◌, ◌≤ℤ◌, ◌⊎◌}
use Rattle.std.specs.Int.{w64}
use Rattle.std.specs.Int.RustNames.{FitsSigned}
use Rattle.std.proofs.lemmas.Int.{ints, to_z-of_z, by_lt_z}
use Rattle.law_turing.specs.Terms.{Tape}
use Rattle.tape.specs.inside.{IsReached, place_numbered}
use Rattle.tape.proofs.Halves.{HasOnesWithin-stored, IsReached-packed, Holds-far}
use Rattle.tape.proofs.tape.Tape.word_shifted.Goals as goal

pub returns-in-None : goal.returns-in-None
returns-in-None c =
    let a = c.self.inside in
    let reached = subst (λ (t : Tape). IsReached t.ones) c.self.view_is (IsReached-packed _ a.block a.bit _ _ _ _ (HasOnesWithin-stored a.block a.bit a.left.items a.right.items a.word _ _ refl refl) refl refl c.self.invariant) in
    let fits_shift : FitsSigned w64 c.args.shift = c.ranges.shift in
    let none = simp to_z-of_z at c.in-None.ensures in
    let x = place_numbered c.args.number +ℤ c.args.shift in
    let sum = pos c.args.number +ℤ c.args.shift in
    let far : ((x +ℤ pos (2 ^ 63)) <ℤ pos 0) ⊎ (pos (2 ^ 64) ≤ℤ (x +ℤ pos (2 ^ 63))) =
    by_lt_z sum (pos 0) (λ lt. inl (omega (arith, ints))) (λ le. by_lt_z sum (pos (2 ^ 64)) (λ lt. absurd (none (le, lt))) (λ ge. inr (omega (arith, ints))))
    in
    Holds-far c.args.self.now.ones x reached far
