use Rattle.std.proofs.Common.{◌≤◌, ◌-◌, length, take}
use Rattle.std.specs.Io.KnownBytes.{Consumes}
use Rattle.cmd_ledgers.proofs.reading.fill.Given as goal

-- what was read stands at the buffer's beginning
abbrev pub invariant-loop-len : goal.invariant-loop-len
invariant-loop-len g l = (l.len ≤ length l.buffer) × Consumes (g.R.Read.remaining l.initial.from) (g.R.Read.remaining l.from) (take l.len l.buffer)

abbrev pub decreases-loop-len : goal.decreases-loop-len
decreases-loop-len g l = length l.buffer - l.len
