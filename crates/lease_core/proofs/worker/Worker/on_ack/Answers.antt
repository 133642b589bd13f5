use Rattle.std.proofs.Common.{List, sym, subst}
use Rattle.machine_text.specs.Terms.{Packed}
use Rattle.lease_core.specs.WorkerState.{records_on}
use Rattle.lease_core.specs.inside.{AreFirstAcknowledged}
use Rattle.lease_core.proofs.DueRecords.{acknowledged_more}
use Rattle.lease_core.proofs.worker.Worker.on_ack.Goals as goal

pub invariant_of-self-2 : goal.invariant_of-self-2
invariant_of-self-2 g c =
    subst (λ (tables : List Packed). AreFirstAcknowledged tables (records_on c.self.inside.board) c.self.inside.first_due) (sym c.in_ok-acknowledge.ensures.ok)
    (acknowledged_more c.self.inside.acknowledged.keys c.args.t (records_on c.self.inside.board) c.self.inside.first_due c.self.invariant)
