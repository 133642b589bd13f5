use Rattle.std.proofs.Common.{arith}
use Rattle.kind_named.proofs.Openings.{within_rest}
use Rattle.kind_named.proofs.Leading.{passes_cc, passes_c_x, passes_c_y}
use Rattle.kind_named.proofs.visit.cut_in_c.Goals as goal

pub put_right-requires-clause-right : goal.put_right-requires-clause-right
put_right-requires-clause-right c = within_rest _ _ _ _ c.in-Some.ensures.items c.requires.on_right

pub put_right-requires-in-Y-clause-right : goal.put_right-requires-in-Y-clause-right
put_right-requires-in-Y-clause-right c = within_rest _ _ _ _ c.in-Some.ensures.items c.requires.on_right

pub returns-in_ok-put_left-in-Cut : goal.returns-in_ok-put_left-in-Cut
returns-in_ok-put_left-in-Cut c =
    passes_cc _ _ _ _ _ _ _ _ _ c.requires c.put_one.ensures.old c.put_left.ensures.old c.in-Some.ensures.items c.in-Cut.is c.in_ok-put_one-in-Cut.ensures.put c.in_ok-put_left-in-Cut.ensures.put

pub returns-in_ok-put_one-in-X : goal.returns-in_ok-put_one-in-X
returns-in_ok-put_one-in-X c =
    passes_c_x _ _ c.put_one-in-X.ensures.old _ (omega arith) _ _ _ _ _ _ _ c.requires c.in-Some.ensures.items c.in_ok-push-in-X.ensures.items c.in_ok-put_one-in-X.ensures.put c.in-X.is c.in_ok-put_right-in-X.ensures

pub returns-in_ok-put_one-in-Y : goal.returns-in_ok-put_one-in-Y
returns-in_ok-put_one-in-Y c =
    passes_c_y _ _ c.put_one-in-Y.ensures.old _ (omega arith) _ _ _ _ _ _ _ c.requires c.in-Some.ensures.items c.in_ok-push-in-Y.ensures.items c.in_ok-put_one-in-Y.ensures.put c.in-Y.is c.in_ok-put_right-in-Y.ensures
