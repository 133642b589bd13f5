use Rattle.std.proofs.Common.{◌≤◌}
use Rattle.peers.specs.Terms.{capped_sum}
use Rattle.cmd_nodes.proofs.calling.work_at.Given as goal

abbrev pub invariant-loop-made : goal.invariant-loop-made
invariant-loop-made g l = record {
  called : capped_sum (g.K.CoordinatorCaller.calls l.fn.caller) l.made ≤ g.K.CoordinatorCaller.calls l.caller;
  few : l.failed ≤ l.made;
}
