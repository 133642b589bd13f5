use Rattle.std.proofs.Common.{◌≡◌, ◌+◌, ◌≤◌, length}
use Rattle.std.specs.Prelude.{count_by}
use Rattle.peers.specs.Frames.{asks_in, is_ask, is_record, records_in}
use Rattle.peers.proofs.pool_core.awaited_in.Given as goal

-- what was counted and what is left are together those of all frames
abbrev pub invariant-parts : goal.invariant-parts
invariant-parts l = record {
  asks : l.awaited.asks + count_by is_ask l.parts ≡ asks_in l.frames;
  records : l.awaited.records + count_by is_record l.parts ≡ records_in l.frames;
  fits : l.awaited.asks + l.awaited.records + length l.parts ≤ length l.frames + 1;
}

abbrev pub decreases-parts : goal.decreases-parts
decreases-parts l = length l.parts
