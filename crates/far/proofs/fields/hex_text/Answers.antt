use Rattle.std.proofs.Common.{◌≡◌, ◌∙◌, sym, subst, ap, arith, rules}
use Rattle.far.specs.Texts.{hex_text}
use Rattle.far.specs.inside.Reading.{IsWritten}
use Rattle.far.proofs.Digits.{written_first, room_left, written_more, written_all}
use Rattle.far.proofs.fields.hex_text.Goals as goal

pub returns-then-number-eq0 : goal.returns-then-number-eq0
unfolding hex_text
returns-then-number-eq0 c = ap hex_text (sym c.if-number-eq0.true)

pub digits-init : goal.digits-init
digits-init c = written_first c.args.number c.args.buf.now c.ranges.number.fits (search rules)

pub overflow_sub-at : goal.overflow_sub-at
overflow_sub-at c = room_left _ _ _ _ c.digits-test.true c.digits.invariant

pub digits-preserved : goal.digits-preserved
digits-preserved c = rw c.hex_glyph.ensures (written_more _ _ _ _ c.digits-test.true c.digits.invariant)

pub returns : goal.returns
returns c =
    let over : c.digits.rest ≡ 0 = omega arith in
    c.behind.ensures ∙ written_all _ _ _ (omega arith) (subst (λ n. IsWritten c.args.number n c.digits.at c.digits.buf) over c.digits.invariant)
