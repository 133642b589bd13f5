-- For the code: what it keeps while it goes through rows, writes lines and puts pictures at their places.
use Rattle.std.specs.Prelude.{◌≡◌, ℕ, List, Option, ◌+◌, ◌≤◌}
use Rattle.text.specs.Terms.{BoundedLine}
use Rattle.cmd_options.specs.declared.ended.Outcome.{Outcome}
use Rattle.cmd_show.specs.Shown.{AreWholeLines, GrowsByLines, AreWithinRuns}
use Rattle.run.specs.Terms.{run_step_limit, OnRun}
use Rattle.cmd_show.specs.declared.rows.Rows.TheInside.{Inside}

-- For the code: one who takes lines, keeps some of what he has, and changes the rest.

-- a line is taken by what is kept from line to line, and by what changes
abbrev pub TakesBy : {D K H : Type 0} → (D → K) → (D → H) → (K → H → BoundedLine → Outcome → H → List ℕ → Type 0) → D
    → BoundedLine → Outcome → D → List ℕ → Type 0
TakesBy keeps changes Takes old line o new said = (keeps new ≡ keeps old)
    × Takes (keeps old) (changes old) line o (changes new) said

-- For the code: lines that wait to be written, and those that are.

-- where whole lines wait, whole lines wait then, and what a writer held has grown by whole lines
abbrev pub KeepsLines : List ℕ → Option (List ℕ) → List ℕ → Option (List ℕ) → Type 0
KeepsLines waits held new_waits new_held =
    AreWholeLines waits → AreWholeLines new_waits × GrowsByLines held new_held

-- For the code: how the configurations of a run are gone through.

-- the runner is on the table's run, not past the time of the next row
pub record IsGoing (a : Inside) : Type 0 where
  pub within : AreWithinRuns a.times
  pub same : a.runner.table ≡ a.table
  pub stands : OnRun a.runner
  pub onward : a.runner.steps ≤ a.due
  pub count : a.number ≤ a.due
  pub near : a.due ≤ run_step_limit + run_step_limit + 1
