use Rattle.kind_named.proofs.SectionLaws.{separator_three, separator_mark}
use Rattle.kind_named.proofs.gather.put_back.Goals as goal

pub returns-then-digit-eq3 : goal.returns-then-digit-eq3
returns-then-digit-eq3 c = separator_three _ _ _ _ _ c.requires c.if-digit-eq3.true c.in_ok-push.ensures.items c.in_ok-push-2.ensures.items

pub returns : goal.returns
returns c = separator_mark _ _ _ _ c.requires c.in_ok-push-3.ensures.items
