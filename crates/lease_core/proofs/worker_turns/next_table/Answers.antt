use Rattle.lease_core.proofs.WorkerLaws.{first_open}
use Rattle.lease_core.proofs.worker_turns.next_table.Goals as goal

pub returns-in-Some-clause-first : goal.returns-in-Some-clause-first
returns-in-Some-clause-first c = first_open c.args.board.now _ c.in-Some.t.now c.next.new.self c.open.ensures c.in-Some.ensures.steps
