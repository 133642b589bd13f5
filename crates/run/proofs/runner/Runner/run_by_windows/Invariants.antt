use Rattle.std.proofs.Common.{◌≡◌, ◌≤◌, ◌-◌}
use Rattle.run.proofs.runner.Runner.run_by_windows.Given as goal

-- a later time of the same run, whose passages are remembered
abbrev pub invariant-loop-self : goal.invariant-loop-self
invariant-loop-self l = record { table : l.self.table ≡ l.fn.self.table; passages : l.passages ≡ l.fn.self.table; low : l.fn.self.steps ≤ l.self.steps; high : l.self.steps ≤ l.k }

abbrev pub decreases-loop-self : goal.decreases-loop-self
decreases-loop-self l = l.k - l.self.steps
