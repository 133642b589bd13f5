use Rattle.kind_named.proofs.Leading.{turns_two_s0, turns_two_s2, turns_two_paid}
use Rattle.kind_named.proofs.visit.at_two.Goals as goal

pub returns-then-digit-eq0 : goal.returns-then-digit-eq0
returns-then-digit-eq0 c = turns_two_s0 _ _ _ _ _ _ c.requires c.in-Some.ensures.items c.in-Separator.is c.if-digit-eq0.true c.in_ok-extend_from_slice.ensures.items

pub returns-then-digit-eq2 : goal.returns-then-digit-eq2
returns-then-digit-eq2 c = turns_two_s2 _ _ _ _ _ _ c.requires c.in-Some.ensures.items c.in-Separator.is c.if-digit-eq2.true c.in_ok-extend_from_slice-2.ensures.items

pub returns : goal.returns
returns c = turns_two_paid _ _ _ _ _ _ _ c.in-Some.ensures.items c.in_ok-push.ensures.items c.in_ok-pay.ensures c.in_ok-extend_from_slice-3.ensures.items
