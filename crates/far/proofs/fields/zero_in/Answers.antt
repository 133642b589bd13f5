use Rattle.std.proofs.Common.{inl, inr, arith}
use Rattle.far.proofs.Digits.{zero_read, zero_refused}
use Rattle.far.proofs.fields.zero_in.Goals as goal

pub returns-then-text-gt1-clause-none : goal.returns-then-text-gt1-clause-none
returns-then-text-gt1-clause-none c = zero_refused _ _ c.requires.zero (inl (omega arith))

pub returns-then-limit-eq0-clause-none : goal.returns-then-limit-eq0-clause-none
returns-then-limit-eq0-clause-none c = zero_refused _ _ c.requires.zero (inr (omega arith))

pub returns-clause-some : goal.returns-clause-some
returns-clause-some c = zero_read _ _ c.requires.some (omega arith) c.requires.zero (omega arith)
