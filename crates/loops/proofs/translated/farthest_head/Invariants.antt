use Rattle.std.proofs.Common.{◌≡◌}
use Rattle.machine_text.specs.Terms.{entry_of}
use Rattle.run.specs.Terms.{OnRun}
use Rattle.loops.proofs.CycleLaws.{IsBoundSoFar}
use Rattle.loops.proofs.translated.farthest_head.Given as goal

-- the runner stands at the loop's time, and the bound is that of the times before it
abbrev pub invariant-loop-time : goal.invariant-loop-time
invariant-loop-time l = record {
  steps : l.runner.steps ≡ l.time;
  table : l.runner.table ≡ l.fn.runner.table;
  stands : OnRun l.runner;
  so_far : IsBoundSoFar (entry_of l.runner.table) l.side l.fn.runner.steps l.time l.runner.config.tape.head l.bound;
}
