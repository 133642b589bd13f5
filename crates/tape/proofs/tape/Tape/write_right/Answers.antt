use Rattle.std.proofs.Common.{◌≡◌, ◌∙◌, ap, sym, arith, refl}
use Rattle.machine_text.specs.declared.table.Dir.TheVariants.{R}
use Rattle.law_turing.specs.Terms.{Tape, written, moved}
use Rattle.tape.specs.inside.{stored}
use Rattle.tape.proofs.PackedCells.{written-stored, right_inside, right_edge-nearest}
use Rattle.tape.proofs.tape.Tape.write_right.Goals as goal

pub returns-then-self-lt-LAST_BIT-clause-ok : goal.returns-then-self-lt-LAST_BIT-clause-ok
returns-then-self-lt-LAST_BIT-clause-ok c =
    let a = c.self.inside in
    let w = c.with_symbol-word.ensures in
    right_inside a.block a.bit _ a.left.items _ a.right.items refl
    ∙ ap (λ (t : Tape). moved t R) (sym (written-stored a.block a.bit a.left.items a.word _ a.right.items c.args.s c.self.invariant.inside w.here w.others))
    ∙ ap (λ (t : Tape). moved (written t c.args.s) R) c.self.view_is

pub returns-in_ok-self-inside-clause-ok : goal.returns-in_ok-self-inside-clause-ok
returns-in_ok-self-inside-clause-ok c =
    let a = c.self.inside in
    let w = c.with_symbol-word.ensures in
    let first : a.bit ≡ 63 = omega (arith, c.if-self-lt-LAST_BIT.false, c.self.invariant.inside) in
    right_edge-nearest a.block _ a.left.items _ a.right.items _ _ _ refl c.in_ok-self-inside.ensures.entered c.in_ok-self-inside.ensures.left
    ∙ ap (λ k. moved (stored a.block k a.left.items c.with_symbol-word.result a.right.items) R) (sym first)
    ∙ ap (λ (t : Tape). moved t R) (sym (written-stored a.block a.bit a.left.items a.word _ a.right.items c.args.s c.self.invariant.inside w.here w.others))
    ∙ ap (λ (t : Tape). moved (written t c.args.s) R) c.self.view_is
