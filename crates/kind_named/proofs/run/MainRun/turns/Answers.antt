use Rattle.kind_named.proofs.Looping.{runs_for}
use Rattle.kind_named.proofs.run.MainRun.turns.Goals as goal

pub returns-clause-steps : goal.returns-clause-steps
returns-clause-steps c = runs_for _ _ _ _ c.self.invariant.reaches
