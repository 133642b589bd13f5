use Rattle.run.proofs.Standings.{stands_at_start}
use Rattle.run.proofs.runner.Runner.new.Goals as goal

pub invariant_of-result : goal.invariant_of-result
invariant_of-result c = rw c.new.ensures.tape (stands_at_start _ c.states.ensures.table)
