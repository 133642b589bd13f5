-- What only the code needs: where a runner with these fields stands, and what one turn of a run's loop leaves.
use Rattle.std.specs.Prelude.{◌≡◌, ℕ, ◌<◌}
use Rattle.run.specs.Steps.{RunState, IsBetween, EndsAt}
use Rattle.run.specs.declared.runner.Step.{Step}
use Rattle.run.specs.declared.runner.Step.TheVariants.{Went, Halts}
use Rattle.run.specs.declared.runner.Runner.TheInside.{Inside}

abbrev pub run_state_of : Inside → RunState
run_state_of a = record { table = a.table; steps = a.steps; config = record { state = a.state.0; tape = a.tape } }

-- by some steps up to time k
abbrev pub AdvancesTo : ℕ → RunState → Step → RunState → Type 0
AdvancesTo k old Went new = IsBetween k old new × (old.steps < new.steps)
AdvancesTo k old (Halts count) new = (new ≡ old) × EndsAt old new count
