use Rattle.std.proofs.Common.{◌≡◌, ◌++◌, map, take}
use Rattle.wire.specs.Terms.{frames_of, Rec}
use Rattle.lease_core.specs.Limits.{tick_record_limit}
use Rattle.lease_core.specs.WorkerState.{unacknowledged}
use Rattle.lease_core.proofs.worker_answers.frames_due.Given as goal

-- what is written, and what the records that are left give, is what will be written
abbrev pub invariant-loop-r : goal.invariant-loop-r
invariant-loop-r l =
    l.frames.items ++ frames_of (map Rec (take l.room (unacknowledged l.acknowledged.keys l.r-iterator)))
    ≡ frames_of (map Rec (take tick_record_limit (unacknowledged l.acknowledged.keys l.board.records)))
