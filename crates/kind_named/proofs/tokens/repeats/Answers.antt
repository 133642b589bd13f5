use Rattle.kind_named.proofs.Looping.{passing_start, passing_more, repeats_now}
use Rattle.kind_named.proofs.tokens.repeats.Goals as goal

pub loop-init : goal.loop-init
loop-init c = record { right = c.requires.right; passing = passing_start _ _ _ c.requires.free c.requires.left }

pub returns-then-branch : goal.returns-then-branch
returns-then-branch c = λ yes. repeats_now _ _ _ _ _ _ _ c.requires.free c.loop.invariant.passing c.in_ok-round.ensures.rounds (c.in_ok-take_tail.ensures.taken c.if-branch.true)

pub loop-preserved : goal.loop-preserved
loop-preserved c = record {
  right = c.in_ok-round.ensures.right;
  passing = passing_more _ _ _ _ _ _ _ c.loop.invariant.passing c.in_ok-round.ensures.rounds (c.in_ok-take_tail.ensures.same c.if-branch.false);
}
