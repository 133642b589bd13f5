use Rattle.std.proofs.Common.{◌≤◌}
use Rattle.cmd_dispatch.proofs.refusal_reasons.fill.Given as goal

-- no more came than the buffer holds
abbrev pub invariant-loop : goal.invariant-loop
invariant-loop g l = l.count ≤ 128
