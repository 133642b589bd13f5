use Rattle.std.proofs.Common.{◌≡◌, ◌+◌, length, subst, arith}
use Rattle.far.specs.inside.Reading.{IsWorth}
use Rattle.far.proofs.Digits.{worth_first, worth_more, worth_so_far, worth_next, worth_all, hex_digits}
use Rattle.far.proofs.fields.positive_in.Goals as goal

pub loop-byte-init : goal.loop-byte-init
loop-byte-init c = worth_first c.args.text.now

-- a byte is no digit
pub returns-in_err-hex_digit-clause-none : goal.returns-in_err-hex_digit-clause-none
returns-in_err-hex_digit-clause-none c =
    rw c.from_residual.ensures (λ hex. c.in_err-hex_digit.ensures.none (hex_digits c.args.limit c.args.text.now c.loop-byte.byte-index (omega arith) hex))

-- a beginning of the digits is worth too much, so all are
pub returns-then-number-limit-clause-none : goal.returns-then-number-limit-clause-none
returns-then-number-limit-clause-none c = λ hex.
    let text = c.args.text.now in
    let small = hex.small in
    omega (arith, small, c.in_ok-hex_digit.ensures.some.0, c.from.ensures, worth_more text c.loop-byte.byte-index (omega arith), worth_so_far text (c.loop-byte.byte-index + 1), c.loop-byte.invariant.worth)

pub loop-byte-preserved : goal.loop-byte-preserved
loop-byte-preserved c =
    worth_next c.args.text.now c.loop-byte.byte-index c.loop-byte.number _ _ (omega arith) c.requires.positive c.in_ok-hex_digit.ensures.some.0 c.in_ok-hex_digit.ensures.some.1
    (omega (arith, c.from.ensures)) (omega (arith, c.requires.limit)) c.loop-byte.invariant

pub returns-else-number-limit-2-clause-some : goal.returns-else-number-limit-2-clause-some
returns-else-number-limit-2-clause-some c =
    let end : c.loop-byte.byte-index ≡ length c.args.text.now = omega arith in
    worth_all _ _ _ c.requires.some (omega arith) (subst (λ k. IsWorth c.args.text.now k c.loop-byte.number) end c.loop-byte.invariant)
