use Rattle.lease_core.proofs.Finals.{worker_keeps}
use Rattle.lease_core.proofs.WorkerLaws.{keeps_step}
use Rattle.lease_core.proofs.worker.WorkerNode.on.Goals as goal

pub returns-clause-final_kept : goal.returns-clause-final_kept
returns-clause-final_kept g c = worker_keeps g.D.Decider.answers _ _ _ _ c.handle.ensures

pub returns-clause-step : goal.returns-clause-step
returns-clause-step g c = keeps_step g.D.Decider.answers _ _ _ _ c.handle.ensures
