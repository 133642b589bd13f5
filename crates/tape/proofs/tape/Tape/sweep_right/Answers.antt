use Rattle.std.proofs.Common.{◌⊎◌, ◌≢◌, refl, ◌≡◌, ℕ, ◌<◌, subst, sym, ap, ◌∙◌, arith}
use Rattle.std.specs.Int.{bit_at}
use Rattle.machine_text.specs.declared.table.Dir.TheVariants.{R}
use Rattle.law_turing.specs.Terms.{Tape, symbol_read}
use Rattle.tape.specs.inside.{bit_ahead, HasCells, HasAllCells}
use Rattle.tape.specs.Cells.{swept, EndsSweep}
use Rattle.tape.proofs.Sweeps.{IsSweptWord, alike_ahead, sweep_ends, lesser, right_swept, right_swept-edge}
use Rattle.tape.proofs.tape.Tape.sweep_right.Goals as goal
use Rattle.tape.proofs.tape.Tape.sweep_right.Goals.{then-self-count-le-LAST_BIT, else-self-count-le-LAST_BIT+in_ok-self-inside}

pub returns-clause-ok : goal.returns-clause-ok
returns-clause-ok c =
    let a = c.self.inside in
    let n = c.min-count.result in
    let some : 0 < n = omega (arith, c.min-count.ensures, c.alike.ensures.some, c.requires.some) in
    let room : HasCells R a.bit n = omega (arith, c.min-count.ensures, c.alike.ensures.inside) in
    let w : IsSweptWord R c.args.s a.bit n a.word c.with_symbols-word.result = (c.with_symbols-word.ensures.here, c.with_symbols-word.ensures.others) in (
      record {
        some = some;
        alike = subst (λ (t : Tape). (i : ℕ) → i < n → symbol_read (swept R c.args.s t i) ≡ symbol_read t) c.self.view_is
            (alike_ahead R c.args.s a.block a.bit a.left.items a.word a.right.items n c.self.invariant.inside room (λ i less. c.alike.ensures.alike i (omega (arith, c.min-count.ensures, less))));
        after = elim c.if-self-count-le-LAST_BIT.branch [
          | then-self-count-le-LAST_BIT d ↦ d.self-is ∙ right_swept c.args.s a.block a.bit _ a.left.items a.word _ a.right.items n (omega (arith, d.if-self-count-le-LAST_BIT.true)) refl w ∙ ap (λ (t : Tape). swept R c.args.s t n) c.self.view_is
          | else-self-count-le-LAST_BIT+in_ok-self-inside d ↦ d.self-is ∙ right_swept-edge c.args.s a.block _ a.bit a.left.items _ a.right.items _ a.word _ _ n c.self.invariant.inside (omega (arith, room, d.if-self-count-le-LAST_BIT.false)) w refl d.in_ok-self-inside.ensures.entered d.in_ok-self-inside.ensures.left ∙ ap (λ (t : Tape). swept R c.args.s t n) c.self.view_is
        ];
      },
      omega (arith, c.min-count.ensures),
    )

pub returns-clause-all : goal.returns-clause-all
returns-clause-all c =
    let a = c.self.inside in
    let n = c.min-count.result in
    let room : HasCells R a.bit n = omega (arith, c.min-count.ensures, c.alike.ensures.inside) in
    let ends = lesser n c.alike.result c.args.limit (λ (m : ℕ). HasAllCells R a.bit m ⊎ (bit_at a.word (bit_ahead R a.bit m) ≢ bit_at a.word a.bit)) (omega (arith, c.min-count.ensures)) (omega (arith, c.min-count.ensures)) (λ less. omega (arith, c.min-count.ensures, less)) c.alike.ensures.all in
    let swept_is = (returns-clause-ok c).0.after in
    subst (λ (u : Tape). EndsSweep R c.args.limit c.args.self.now n u) (sym swept_is)
    (subst (λ (t : Tape). EndsSweep R c.args.limit t n (swept R c.args.s t n)) c.self.view_is (sweep_ends R c.args.s a.block a.bit a.left.items a.word a.right.items c.args.limit n c.self.invariant.inside room ends))
