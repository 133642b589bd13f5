use Rattle.kind_named.proofs.Leading.{lead_stay, lead_on, visited}
use Rattle.kind_named.proofs.visit.visit.Goals as goal

pub loop-init : goal.loop-init
loop-init c = lead_stay _ _ c.requires.sound

pub loop-preserved : goal.loop-preserved
loop-preserved c = lead_on _ _ _ _ c.loop.invariant c.in_ok-heading.ensures

pub returns-in-Some-clause-visited : goal.returns-in-Some-clause-visited
returns-in-Some-clause-visited c = visited _ _ _ _ _ _ _ _ _ c.requires.empty c.in-Some.ensures.1 c.in-Some.ensures.0 c.loop.invariant
