use Rattle.lease_core.proofs.WorkerLaws.{gains}
use Rattle.lease_core.proofs.worker_answers.workers_append_what_they_gain.Goals as goal

pub returns : goal.returns
returns g c = gains g.D.Decider.answers
