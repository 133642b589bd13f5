-- What is said of a table's run, at which times, and of which cells.
use Rattle.std.specs.Prelude.{◌≡◌, ℕ, List, ◌++◌, ◌⊎◌, [], ◌∷◌, Option, ◌+◌, ◌<◌, ◌≤◌}
use Rattle.std.specs.Io.KnownBytes.{Appends}
use Rattle.machine_text.specs.Terms.{Packed, text_of}
use Rattle.cmd_options.specs.declared.ended.Outcome.{Outcome}
use Rattle.cmd_options.specs.declared.ended.Outcome.TheVariants.{NoMemory, Failed}
use Rattle.cmd_options.specs.declared.ended.Ended.{Ended}
use Rattle.cmd_options.specs.declared.ended.Ended.TheVariants.{Stream, File, NoMemory as WantsMemory}
use Rattle.run.specs.Terms.{run_step_limit}
use Rattle.cmd_show.specs.declared.rows.Times.{Times}
use Rattle.machine_text.specs.declared.table.Dir.TheVariants.{L, R}
use Rattle.law_turing.specs.Terms.{Machine, Farthest}
use Rattle.cmd_show.specs.declared.visits.Span.{Span}

-- What is said of a table's run: its text, and behind it the lines of the run.
pub record IsShownRun (t : Packed) (answer : List ℕ) : Type 0 where
  pub lines : List ℕ
  pub is : answer ≡ text_of t ++ lines

-- Lines that are printed as they come.

-- nothing, or lines that all end with a newline
abbrev pub AreWholeLines : List ℕ → Type 0
AreWholeLines text = (text ≡ []) ⊎ ((front : List ℕ) × (text ≡ front ++ 10 ∷ []))

-- what a writer held grows by whole lines
abbrev pub GrowsByLines : Option (List ℕ) → Option (List ℕ) → Type 0
GrowsByLines held new_held = (text : List ℕ) × AreWholeLines text × Appends held new_held text

-- a command has printed whole lines, or says that memory was refused or something failed
abbrev pub EndsInLines : Option (List ℕ) → Option (List ℕ) → Outcome → Type 0
EndsInLines held new_held o = GrowsByLines held new_held ⊎ ((o ≡ NoMemory) ⊎ (o ≡ Failed))

-- What ends the drawing of lines early.
abbrev pub EndsDrawing : Ended → Type 0
EndsDrawing e = (e ≡ WantsMemory) ⊎ (e ≡ Stream) ⊎ (e ≡ File)

-- At which times a run is shown.

-- the last time that is asked for
abbrev pub last_time : Times → ℕ
last_time t = t.from + t.steps

-- none of the times is beyond what a run makes
pub record AreWithinRuns (t : Times) : Type 0 where
  pub last : last_time t ≤ run_step_limit
  pub onward : 0 < t.every
  pub near : t.every ≤ run_step_limit + 1

-- The cells that a run visits.

-- from one time to another the head is within a span, and once at each end of it
pub record IsVisited (m : Machine) (first last : ℕ) (cells : Span) : Type 0 where
  pub left : Farthest m R first (last + 1) cells.first
  pub right : Farthest m L first (last + 1) cells.last
