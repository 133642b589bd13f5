use Rattle.std.proofs.Common.{◌∙◌, sym, refl}
use Rattle.kind_named.proofs.SectionLaws.{rebuilt_none, below_at, rebuilt_more, rebuilt_all}
use Rattle.kind_named.proofs.rebuild.rebuild.Goals as goal

pub loop-section-init : goal.loop-section-init
loop-section-init c = rebuilt_none _ _ _ _ _ c.requires.within c.requires.taken_within

pub rebuild_one-requires-clause-left : goal.rebuild_one-requires-clause-left
rebuild_one-requires-clause-left c = c.loop-section.invariant.within

pub rebuild_one-requires-clause-section : goal.rebuild_one-requires-clause-section
rebuild_one-requires-clause-section c = below_at 0 _ _ _ _ _ c.loop-section.invariant.extends c.in-Some.ensures.items c.loop-section.invariant.rest_within

pub loop-section-preserved : goal.loop-section-preserved
loop-section-preserved c = rebuilt_more _ _ _ _ _ _ _ _ _ _ _ _ _ _ _ _ c.loop-section.invariant c.in-Some.ensures.items c.in_ok-m.ensures.old c.in_ok-m.ensures.rebuilds

pub returns-clause-visits : goal.returns-clause-visits
returns-clause-visits c = rebuilt_all _ _ _ _ _ _ _ _ _ _ _ c.loop-section.invariant c.in_default.ensures.items (sym c.loop-section.taken.ok.0 ∙ c.in_default.ensures.cases.0) (c.if-not-suits.ensures refl)
