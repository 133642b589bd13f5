use Rattle.run.proofs.Standings.{stands_at_start}
use Rattle.run.proofs.runner.Runner.restart.Goals as goal

pub invariant_of-self : goal.invariant_of-self
invariant_of-self c = rw c.clear.ensures (stands_at_start _ c.states.ensures.table)
