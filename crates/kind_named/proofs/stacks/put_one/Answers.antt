use Rattle.kind_named.proofs.Openings.{taken, taken_as, nothing, within_rest, one_cut, one_again, one_first}
use Rattle.kind_named.proofs.stacks.put_one.Goals as goal

pub put_left-requires-clause-left : goal.put_left-requires-clause-left
put_left-requires-clause-left c = within_rest _ _ _ _ (taken_as _ _ _ _ _ c.pop.ensures.items c.in-Some-Cut.is c.in-Some-Cut.field-0-is) c.in_ok-open_left.ensures.same.within

pub returns-in_ok-put_left-in-Some-Cut-clause-put : goal.returns-in_ok-put_left-in-Some-Cut-clause-put
returns-in_ok-put_left-in-Some-Cut-clause-put c =
    one_cut _ _ _ _ _ _ _ c.in_ok-open_left.ensures.same (taken_as _ _ _ _ _ c.pop.ensures.items c.in-Some-Cut.is c.in-Some-Cut.field-0-is) c.in_ok-put_left-in-Some-Cut.ensures.put

pub returns-in_ok-push-in-Some-2 : goal.returns-in_ok-push-in-Some-2
returns-in_ok-push-in-Some-2 c = record {
  old = c.open_left.ensures.extends;
  put = one_again _ _ _ _ _ _ _ _ c.in_ok-open_left.ensures.same (taken _ _ _ _ c.pop.ensures.items c.in-Some.is) c.in_ok-push-in-Some.ensures.items c.in_ok-push-in-Some-2.ensures.items;
}

pub returns-in_ok-push-in-None-clause-put : goal.returns-in_ok-push-in-None-clause-put
returns-in_ok-push-in-None-clause-put c = one_first _ _ _ _ _ _ c.in_ok-open_left.ensures.same (nothing _ _ _ c.pop.ensures.items c.in-None.is) c.in_ok-push-in-None.ensures.items
