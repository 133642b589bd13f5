use Rattle.std.proofs.Common.{◌≡◌, ◌≤◌, ◌-◌}
use Rattle.machine_text.specs.Terms.{entry_of}
use Rattle.run.specs.Terms.{OnRun}
use Rattle.cmd_lines.specs.Listed.{StaysBelow}
use Rattle.cmd_lines.proofs.normal.first_from.Given as goal

-- a time of the run, before which it is in states below `named`
abbrev pub invariant-steps : goal.invariant-steps
invariant-steps l = record {
  table : l.runner.table ≡ l.fn.runner.table;
  within : l.runner.steps ≤ l.steps;
  on_run : OnRun l.runner;
  before : StaysBelow (entry_of l.fn.runner.table) l.runner.steps l.named;
}

abbrev pub decreases-steps : goal.decreases-steps
decreases-steps l = l.steps - l.runner.steps
