use Rattle.lease_core.proofs.WorkerLaws.{sends_own}
use Rattle.lease_core.proofs.worker_answers.workers_send_their_records.Goals as goal

pub returns : goal.returns
returns g c = sends_own g.D.Decider.answers
