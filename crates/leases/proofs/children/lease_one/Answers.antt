use Rattle.ledger.specs.Terms.{same_table}
use Rattle.leases.proofs.FreeLaws.{gains_key}
use Rattle.leases.proofs.children.lease_one.Goals as goal

pub returns-clause-came : goal.returns-clause-came
unfolding same_table
returns-clause-came c = λ q. c.in-Ok-insert.ensures.updates.0 q

pub returns-clause-tables : goal.returns-clause-tables
unfolding same_table
returns-clause-tables c = rw c.in-Ok.ensures.keys (gains_key c.args.tables.now.keys c.args.child)
