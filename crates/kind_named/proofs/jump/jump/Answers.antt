use Rattle.kind_named.proofs.SectionLaws.{withinS_none}
use Rattle.kind_named.proofs.Looping.{jumps_plain, jumps_glide}
use Rattle.kind_named.proofs.jump.jump.Goals as goal

pub gather-requires : goal.gather-requires
gather-requires c = record { within = c.requires.left; taken_within = withinS_none _ _ c.clear.ensures.items }

pub returns-then-periods-eq0 : goal.returns-then-periods-eq0
returns-then-periods-eq0 c =
    jumps_plain _ _ _ _ c.rebuild.new.ropes c.rebuild.new.ropes _ _ c.rebuild.new.left.items c.rebuild.new.left.items _ c.gather.new.taken.items c.gather.new.taken.items c.clear.ensures.items c.in_ok-periods.ensures.gathers c.in_ok-count.ensures.within c.in_ok-count.ensures.visits

pub returns : goal.returns
returns c =
    jumps_glide _ _ _ _ _ _ _ _ _ _ _ _ _ c.clear.ensures.items c.in_ok-periods.ensures.gathers _ c.in_ok-visits.ensures.glided c.in_ok-count-2.ensures.within c.in_ok-count-2.ensures.visits
