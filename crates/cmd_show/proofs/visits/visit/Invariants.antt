use Rattle.std.proofs.Common.{◌≡◌, ℕ, ◌≤◌, ◌-◌}
use Rattle.machine_text.specs.Terms.{entry_of}
use Rattle.cmd_show.specs.Shown.{IsVisited}
use Rattle.cmd_show.proofs.visits.visit.Given as goal

-- a later time of the same run, with the cells that were visited up to then
abbrev pub invariant-steps : goal.invariant-steps
invariant-steps l = record {
  table : l.runner.table ≡ l.fn.runner.table;
  low : l.fn.runner.steps ≤ l.runner.steps;
  high : l.runner.steps ≤ l.k;
  visited : (first : ℕ) → IsVisited (entry_of l.fn.runner.table) first l.fn.runner.steps l.fn.cells → IsVisited (entry_of l.runner.table) first l.runner.steps l.cells;
}

abbrev pub decreases-steps : goal.decreases-steps
decreases-steps l = l.k - l.runner.steps
