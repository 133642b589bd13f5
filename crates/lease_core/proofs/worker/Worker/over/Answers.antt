use Rattle.lease_core.proofs.WorkerLaws.{starts_step}
use Rattle.lease_core.proofs.worker.Worker.over.Goals as goal

pub returns-clause-step : goal.returns-clause-step
returns-clause-step g c = starts_step _ _ _ _ _ c.started.ensures
