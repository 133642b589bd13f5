use Rattle.ledger.specs.Terms.{same_table}
use Rattle.lease_core.proofs.WorkerLaws.{root_order, root_test}
use Rattle.lease_core.proofs.worker_turns.has_root.Goals as goal

pub returns-in-Some-clause-root : goal.returns-in-Some-clause-root
unfolding same_table
returns-in-Some-clause-root c = root_test c.args.board.now c.in-Some.board c.root.result.now c.args.t.now c.eq.result c.in-Some.is c.root.ensures.root c.eq.ensures

pub returns-in-Some-clause-order : goal.returns-in-Some-clause-order
unfolding same_table
returns-in-Some-clause-order c = root_order c.in-Some.board c.root.result.now c.args.t.now c.eq.result c.root.ensures.board c.root.ensures.root c.eq.ensures
