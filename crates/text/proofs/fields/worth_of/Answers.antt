use Rattle.std.proofs.Common.{◌+◌, arith}
use Rattle.text.proofs.DecimalFields.{worth_more, worth_so_far}
use Rattle.text.proofs.fields.worth_of.Goals as goal

-- a beginning of the digits is worth too much, so all are
pub returns-in_err-number-clause-none : goal.returns-in_err-number-clause-none
returns-in_err-number-clause-none c =
    let text = c.args.text.now in
    rw c.from_residual.ensures (omega (arith, c.in_err-number.ensures.none, worth_more text c.loop-byte.byte-index (omega arith), worth_so_far text (c.loop-byte.byte-index + 1), c.loop-byte.invariant))
