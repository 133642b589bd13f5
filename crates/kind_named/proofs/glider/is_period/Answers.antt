use Rattle.kind_named.proofs.SectionLaws.{glides_seen, glider_within}
use Rattle.kind_named.proofs.glider.is_period.Goals as goal

pub visit_often-requires-clause-left : goal.visit_often-requires-clause-left
visit_often-requires-clause-left c = glider_within _ _ _ tt c.in_ok-put_glider.ensures

pub returns : goal.returns
returns c = λ yes.
    glides_seen _ _ _ _ _ _ _ _ _ _ c.in_ok-put_glider.ensures (c.in_ok-visit_often.ensures c.if-not-branch.false)
    c.glider_end.ensures.is (c.in_ok-take_tail.ensures.taken c.if-not-branch-2.false)
    c.glider.ensures.is (c.in_ok-seen.ensures.taken yes)
