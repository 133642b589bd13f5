use Rattle.std.proofs.Common.{Option, rules, subst}
use Rattle.cert.specs.Terms.{owned_recorded}
use Rattle.ledger.specs.Terms.{Contents}
use Rattle.lease_core.specs.WorkerState.{records_on}
use Rattle.lease_core.specs.inside.{AreFirstAcknowledged}
use Rattle.lease_core.proofs.DueRecords.{made_keeps}
use Rattle.lease_core.proofs.worker.Worker.on_work.Goals as goal

-- answered by name, so that nothing is offered where an edit makes it false
pub returns-clause-ok : goal.returns-clause-ok
returns-clause-ok g c = search rules steps 1000000

pub invariant_of-self-2 : goal.invariant_of-self-2
invariant_of-self-2 g c =
    made_keeps c.self.inside.acknowledged.keys c.in-Some.board c.make.new.board (owned_recorded c.in_ok-made.field-0.record) c.make.result c.self.inside.first_due c.make.ensures.ok c.make.ensures.err
    (subst (λ (o : Option Contents). AreFirstAcknowledged c.self.inside.acknowledged.keys (records_on o) c.self.inside.first_due) c.in-Some.is c.self.invariant)
