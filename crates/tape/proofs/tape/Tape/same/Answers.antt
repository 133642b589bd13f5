use Rattle.std.proofs.Common.{◌≡◌, ◌∙◌, sym, arith, true}
use Rattle.std.proofs.lemmas.Int.{ints}
use Rattle.std.proofs.lemmas.Bool.{eqb-true}
use Rattle.machine_text.specs.declared.table.Dir.TheVariants.{R}
use Rattle.tape.proofs.Halves.{same_tape-halves, SameBeyond-itself}
use Rattle.tape.proofs.tape.Tape.same.Goals.{then-head, else-head}
use Rattle.tape.proofs.tape.Tape.same.Goals as goal

pub returns-then-same_half : goal.returns-then-same_half
returns-then-same_half c =
    let right = c.same_half-then-same_half.ensures in
    elim c.if-head.branch [
      | then-head w ↦ let heads : c.head.result ≡ c.head-2.result = omega (arith, ints) in
          let passed : w.same_half.result ≡ true = sym w.value-is ∙ c.if-same_half.true in
          (λ t. same_tape-halves _ _ (sym c.head.ensures ∙ heads ∙ c.head-2.ensures) (w.same_half.ensures.0 passed) (right.0 t), λ same. right.1 (SameBeyond-itself R _ _ same))
      | else-head w ↦ absurd (w.if-head.false (eqb-true _ _ (sym w.value-is ∙ c.if-same_half.true)))
    ]
