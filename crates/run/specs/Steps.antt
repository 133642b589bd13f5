-- Where a runner stands, its steps, and what a run does to a window of sixteen cells until the head leaves it.
use Rattle.std.specs.Prelude.{◌≡◌, ℕ, ◌<◌, ◌≤◌, List, Some, refl, ◌+◌, ◌*◌, ◌/◌, ◌%◌, ℤ, pos, ◌+ℤ◌, length, get_or}
use Rattle.std.specs.Coded.{Coded, code_by, coded×, coded_ℕ, coded_list}
use Rattle.machine_text.specs.Terms.{Packed, IsTable, entry_of}
use Rattle.law_turing.specs.Terms.{Config, config_code, after, next, Machine, Tape, from, HaltsAt}
use Rattle.run.specs.Limits.{run_step_limit}
use Rattle.run.specs.declared.runner.Step.{Step}
use Rattle.run.specs.declared.runner.Step.TheVariants.{Went, Halts}
use Rattle.machine_text.specs.declared.table.Dir.{Dir}
use Rattle.tape.specs.Terms.{HoldsCells, SameBut, place_beyond}
use Rattle.tape.specs.declared.window.Window.{Window}
use Rattle.run.specs.declared.passages.Passage.{Passage}
use Rattle.run.specs.declared.passages.Known.{Known}
use Rattle.run.specs.declared.passages.Known.TheVariants.{Unknown, Stays, Leaves}

-- Where a runner stands: at a time of its table's run.

-- a table, so many steps of its run, and the configuration to which they led
pub record RunState : Type 0 where
  pub table : Packed
  pub steps : ℕ
  pub config : Config

abbrev pub packed_code : Coded Packed
packed_code =
    code_by (List ℕ × ℕ) (coded× (coded_list coded_ℕ) coded_ℕ) (λ p. (p.codes, p.states))
    (λ c. record { codes = c.0; states = c.1 }) (λ _. refl)

abbrev pub run_state_code : Coded RunState
run_state_code =
    code_by (Packed × (ℕ × Config)) (coded× packed_code (coded× coded_ℕ config_code))
    (λ r. (r.table, (r.steps, r.config))) (λ c. record { table = c.0; steps = c.1.0; config = c.1.1 }) (λ _. refl)

-- the configuration is that of the run at this time
pub record OnRun (r : RunState) : Type 0 where
  pub is_table : IsTable r.table
  pub at : after (entry_of r.table) r.steps ≡ Some r.config
  pub within : r.config.state < r.table.states
  pub limit : r.steps ≤ run_step_limit

-- What a step of a runner leaves, and what many do.

-- a step was carried out
pub record TakesStep (old new : RunState) : Type 0 where
  pub table : new.table ≡ old.table
  pub steps : new.steps ≡ old.steps + 1
  pub next : next (entry_of old.table) old.config ≡ Some new.config

-- the run halts in this many steps, of which all but the halting one are carried out
pub record EndsAt (old new : RunState) (count : ℕ) : Type 0 where
  pub table : new.table ≡ old.table
  pub last : count ≡ new.steps + 1
  pub halts : HaltsAt (entry_of old.table) count

-- by one step
abbrev pub StepsTo : RunState → Step → RunState → Type 0
StepsTo old Went new = TakesStep old new
StepsTo old (Halts count) new = (new ≡ old) × EndsAt old new count

-- at a time of the same run, up to time k
pub record IsBetween (k : ℕ) (old new : RunState) : Type 0 where
  pub table : new.table ≡ old.table
  pub low : old.steps ≤ new.steps
  pub high : new.steps ≤ k
  pub stands : OnRun new

-- by steps up to time k
abbrev pub RunsTo : ℕ → RunState → Step → RunState → Type 0
RunsTo k old Went new = IsBetween k old new × (new.steps ≡ k)
RunsTo k old (Halts count) new = IsBetween k old new × EndsAt old new count × (count ≤ k)

-- Passages: what a run does to a window of sixteen cells until the head leaves it, whatever stands beside it.

-- from a state and a window, wherever that stands, so many steps lead to this state, these cells of the window, and a head so
-- many cells right of its left edge
pub record LeavesCells (m : Machine) (x : ℤ) (t : Tape) (state steps last cells : ℕ) (at : ℤ) : Type 0 where
  pub tape : Tape
  pub is : from m steps (record { state = state; tape = t }) ≡ Some (record { state = last; tape = tape })
  pub head : tape.head ≡ x +ℤ at
  pub holds : HoldsCells tape.ones x cells
  pub others : SameBut x t.ones tape.ones

abbrev pub LeavesSo : Machine → ℕ → Window → ℕ → ℕ → ℕ → ℤ → Type 0
LeavesSo m state window steps last cells at =
    (x : ℤ) (t : Tape) → t.head ≡ x +ℤ pos window.at → HoldsCells t.ones x window.cells
    → LeavesCells m x t state steps last cells at

-- where the head stands that has left the window to a side, counted from its left edge
abbrev pub beyond : Dir → ℤ
beyond side = place_beyond side (pos 0)

-- the head leaves the window so
pub record TellsPassage (m : Machine) (state : ℕ) (window : Window) (p : Passage) : Type 0 where
  pub some : 0 < p.steps
  pub leads : LeavesSo m state window p.steps p.state.0 p.cells (beyond p.side)

-- what is remembered under a number is so: the number says the state, the end at which the head stands, and the cells
abbrev pub window_numbered : ℕ → Window
window_numbered k = record { cells = k % 65536; at = 15 * (k / 65536 % 2) }

pub record IsWindowNumber (k state : ℕ) (window : Window) : Type 0 where
  pub small : k < 1048576
  pub state_is : k / 131072 ≡ state
  pub window_is : window_numbered k ≡ window

abbrev pub IsRight : Packed → ℕ → Known → Type 0
IsRight p k Unknown = Unit {0}
IsRight p k Stays = Unit {0}
IsRight p k (Leaves passage) = TellsPassage (entry_of p) (k / 131072) (window_numbered k) passage

pub record AreRight (p : Packed) (known : List Known) : Type 0 where
  pub each : (k : ℕ) (other : Known) → k < length known → IsRight p k (get_or known k other)
