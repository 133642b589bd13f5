-- The terms of this crate: what others cite of its definitions, under one name.
pub use Rattle.run.specs.Halts.{HaltsAsClaimed, IsWithinReach, halts_by, halts_fields, halts_meaning, reach_letter}
pub use Rattle.run.specs.Limits.{late_step_limit, run_step_limit}
pub use Rattle.run.specs.Steps.{IsBetween, OnRun, RunState, RunsTo, StepsTo, TakesStep}
