use Rattle.std.proofs.Common.{◌≡◌}
use Rattle.std.specs.Prelude.{vec_len}
use Rattle.cmd_dispatch.proofs.node_commands.workers_of.Given as goal

-- there are as many workers as places behind
abbrev pub invariant-loop-place : goal.invariant-loop-place
invariant-loop-place l = vec_len l.workers ≡ l.place
