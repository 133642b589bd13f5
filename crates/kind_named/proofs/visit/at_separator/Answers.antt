use Rattle.kind_named.proofs.Leading.{turns_zero, turns_one, turns_opened}
use Rattle.kind_named.proofs.visit.at_separator.Goals as goal

pub returns-then-digit-eq0-clause-turns : goal.returns-then-digit-eq0-clause-turns
returns-then-digit-eq0-clause-turns c = turns_zero _ _ _ _ _ _ _ c.if-digit-eq0.true c.in_ok-open_left.ensures.same c.in_ok-pay.ensures c.in_ok-extend_from_slice.ensures.items

pub returns-then-digit-eq1-clause-turns : goal.returns-then-digit-eq1-clause-turns
returns-then-digit-eq1-clause-turns c = turns_one _ _ _ _ c.if-digit-eq1.true c.requires c.in_ok-extend_from_slice-2.ensures.items

pub returns-then-digit-eq2-clause-turns : goal.returns-then-digit-eq2-clause-turns
returns-then-digit-eq2-clause-turns c = turns_opened _ _ _ _ _ _ c.if-digit-eq2.true c.in_ok-open_left-2.ensures.same c.in_ok-at_two.ensures
