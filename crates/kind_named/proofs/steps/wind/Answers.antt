use Rattle.kind_named.proofs.Openings.{within_pushed}
use Rattle.kind_named.proofs.Leading.{winds_put}
use Rattle.kind_named.proofs.steps.wind.Goals as goal

pub put_left-requires-clause-left : goal.put_left-requires-clause-left
put_left-requires-clause-left c = within_pushed _ _ _ _ c.in_ok-push.ensures.items c.in_ok-pay.ensures.within c.requires.below.rope

pub returns-clause-winds : goal.returns-clause-winds
returns-clause-winds c = winds_put _ _ _ _ _ _ _ (c.are_odd.ensures _) c.requires.long c.in_ok-pay.ensures c.in_ok-push.ensures.items c.in_ok-put_left.ensures.put
