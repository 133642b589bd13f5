use Rattle.cert.specs.Terms.{recorded}
use Rattle.ledger.specs.Terms.{same_table}
use Rattle.lease_core.proofs.DueRecords.{passes_next}
use Rattle.lease_core.proofs.worker_answers.first_due.Goals as goal

pub loop-r-preserved : goal.loop-r-preserved
unfolding same_table
loop-r-preserved c =
    passes_next c.args.acknowledged.now.keys c.args.board.now.records c.loop-r.place c.loop-r.r-iterator c.next.new.self (recorded c.in-Some.r) c.contains.result
    c.loop-r.invariant c.in-Some.ensures.steps c.contains.ensures c.if-not-contains.false
