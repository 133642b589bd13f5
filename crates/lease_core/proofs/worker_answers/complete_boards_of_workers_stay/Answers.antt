use Rattle.lease_core.proofs.Finals.{worker_keeps}
use Rattle.lease_core.proofs.worker_answers.complete_boards_of_workers_stay.Goals as goal

pub returns : goal.returns
returns g c old new e answer gives = worker_keeps g.D.Decider.answers old e answer new gives
