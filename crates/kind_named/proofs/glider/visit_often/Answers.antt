use Rattle.std.proofs.Common.{◌≡◌, subst, refl, arith}
use Rattle.kind_named.specs.inside.Loop.{glider_visits, VisitsOften}
use Rattle.kind_named.proofs.Looping.{sound_empty, visiting_none, visiting_more}
use Rattle.kind_named.proofs.glider.visit_often.Goals as goal

pub visit-requires-clause-sound : goal.visit-requires-clause-sound
visit-requires-clause-sound c = sound_empty _ _ _ c.loop.invariant.visiting.within c.loop.invariant.right

pub loop-init : goal.loop-init
loop-init c = record { right = c.requires.right; visiting = visiting_none _ _ c.requires.left }

pub loop-preserved : goal.loop-preserved
loop-preserved c = record {
  right = c.in_ok-answer.ensures.empty;
  visiting = visiting_more _ _ _ _ _ _ _ _ c.loop.invariant.visiting c.in_ok-answer.ensures.visited (c.if-not-is_a.ensures refl);
}

pub returns : goal.returns
returns c = λ yes.
    let all : c.loop.counter ≡ glider_visits = (let end = c.loop.auto.counter-end in let over = c.loop-test.false in omega arith) in
    subst (λ n. VisitsOften n c.args.ropes.now c.loop.ropes c.args.left.now.items c.loop.left.items) all c.loop.invariant.visiting
