use Rattle.std.proofs.Common.{refl, arith}
use Rattle.std.specs.Int.{w64}
use Rattle.std.specs.Int.RustNames.{FitsSigned}
use Rattle.std.proofs.lemmas.Int.{ints, to_z-of_z}
use Rattle.tape.proofs.Halves.{IsLookedAt-more, OnesWithin-looked}
use Rattle.tape.proofs.tape.Tape.ones_are_in.Goals as goal

pub loop-block-init : goal.loop-block-init
loop-block-init c = record { ordered = omega arith; ones_are_in = λ x low high. absurd (omega (arith, ints)) }

pub loop-block-preserved : goal.loop-block-preserved
loop-block-preserved c = IsLookedAt-more _ _ _ _ c.loop-block.block _ _ _ refl c.loop-block.invariant (c.if-not-word_is_in.ensures.0 refl)

pub returns-clause-ones : goal.returns-clause-ones
returns-clause-ones c =
    let fits_from : FitsSigned w64 c.args.from = c.ranges.from in
    let fits_shift : FitsSigned w64 c.args.shift = c.ranges.shift in
    let looked = simp to_z-of_z at c.loop-block.invariant in
    (λ _. OnesWithin-looked _ _ _ c.blocks-first.result.0 c.blocks-first.result.1 c.loop-block.block _ _ c.blocks-first.ensures.all looked (omega (arith, c.loop-block-test.false)), λ _. refl)
