use Rattle.std.proofs.Common.{◌≡◌, ◌+◌}
use Rattle.run.specs.Terms.{OnRun}
use Rattle.loops.proofs.search.found_within.Given as goal

-- the runner stands at the loop's time, which was looked at
abbrev pub invariant-loop-time : goal.invariant-loop-time
invariant-loop-time g l = record {
  steps : l.runner.steps ≡ l.time;
  table : l.runner.table ≡ l.fn.runner.table;
  stands : OnRun l.runner;
  seen : g.W.Watch.has_seen l.watch l.runner.table (l.time + 1);
}
