use Rattle.std.proofs.Common.{◌≡◌, map}
use Rattle.cmd_nodes.proofs.run_command.stations.Given as goal

abbrev pub invariant-loop-worker : goal.invariant-loop-worker
invariant-loop-worker g l = map (λ s. s.worker) l.stations.items ≡ l.yielded
