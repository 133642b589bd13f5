use Rattle.std.proofs.Common.{◌≡◌, ◌∙◌, ap, sym, arith, rules}
use Rattle.machine_text.specs.declared.table.Dir.TheVariants.{L}
use Rattle.law_turing.specs.Terms.{Tape, written, moved}
use Rattle.tape.specs.inside.{stored}
use Rattle.tape.proofs.PackedCells.{written-stored, left_inside, left_edge-nearest}
use Rattle.tape.proofs.tape.Tape.write_left.Goals as goal

pub returns-then-self-gt0-clause-ok : goal.returns-then-self-gt0-clause-ok
returns-then-self-gt0-clause-ok c =
    let a = c.self.inside in
    let w = c.with_symbol-word.ensures in
    let some = c.if-self-gt0.true in
    left_inside a.block a.bit _ a.left.items _ a.right.items (omega arith)
    ∙ ap (λ (t : Tape). moved t L) (sym (written-stored a.block a.bit a.left.items a.word _ a.right.items c.args.s c.self.invariant.inside w.here w.others))
    ∙ ap (λ (t : Tape). moved (written t c.args.s) L) c.self.view_is

pub returns-in_ok-self-inside-clause-ok : goal.returns-in_ok-self-inside-clause-ok
returns-in_ok-self-inside-clause-ok c =
    let a = c.self.inside in
    let w = c.with_symbol-word.ensures in
    let first : a.bit ≡ 0 = omega (arith, c.if-self-gt0.false) in
    let before = c.self.invariant.low in
    left_edge-nearest a.block _ a.left.items _ a.right.items _ _ _ (omega arith) c.in_ok-self-inside.ensures.entered c.in_ok-self-inside.ensures.left
    ∙ ap (λ k. moved (stored a.block k a.left.items c.with_symbol-word.result a.right.items) L) (sym first)
    ∙ ap (λ (t : Tape). moved t L) (sym (written-stored a.block a.bit a.left.items a.word _ a.right.items c.args.s c.self.invariant.inside w.here w.others))
    ∙ ap (λ (t : Tape). moved (written t c.args.s) L) c.self.view_is

-- answered by name, so that nothing is offered where an edit makes it false
pub returns-in_err-self-inside-clause-err : goal.returns-in_err-self-inside-clause-err
returns-in_err-self-inside-clause-err c = search rules steps 1000000
