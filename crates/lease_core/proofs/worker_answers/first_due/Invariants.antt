use Rattle.lease_core.proofs.DueRecords.{Passed}
use Rattle.lease_core.proofs.worker_answers.first_due.Given as goal

-- the records that are left stand from the place on, and those before it are acknowledged
abbrev pub invariant-loop-r : goal.invariant-loop-r
invariant-loop-r l = Passed l.acknowledged.keys l.board.records l.place l.r-iterator
