use Rattle.totals.proofs.Walks.{goes_further, stays}
use Rattle.totals.proofs.walk.Walk.walk.Goals as goal

pub loop-i-init : goal.loop-i-init
loop-i-init g c = stays _ g.D.Decider.answers c.args.self.now

pub loop-i-preserved : goal.loop-i-preserved
loop-i-preserved g c = goes_further _ g.D.Decider.answers c.args.self.now c.loop-i.self c.step.new.self c.loop-i.i 1 c.loop-i.invariant c.in_ok-step.ensures.goes_on
