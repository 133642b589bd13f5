-- What the crate's own code needs to say of its steps; no public contract speaks of it.
use Rattle.std.specs.Prelude.{◌≡◌, ℕ, Some, refl, Bool, true, false, ℤ, Option, None}
use Rattle.std.specs.Coded.{Coded, code_by, coded×, coded_ℕ}
use Rattle.machine_text.specs.Terms.{Packed, entry_of}
use Rattle.law_turing.specs.Terms.{Config, config_code, after, Farthest}
use Rattle.run.specs.Terms.{RunState, OnRun}
use Rattle.machine_text.specs.declared.table.Dir.{Dir}

-- A time of a run, and the configuration at that time.
pub record Moment : Type 0 where
  pub time : ℕ
  pub config : Config

abbrev pub moment_code : Coded Moment
moment_code =
    code_by (ℕ × Config) (coded× coded_ℕ config_code) (λ m. (m.time, m.config))
    (λ p. record { time = p.0; config = p.1 }) (λ _. refl)

-- where a runner stands
abbrev pub moment_of : RunState → Moment
moment_of r = record { time = r.steps; config = r.config }

-- the run of a table comes there
pub record IsMomentOf (p : Packed) (moment : Moment) : Type 0 where
  pub at : after (entry_of p) moment.time ≡ Some moment.config

-- Whether a run comes to a time.

-- the runner stands at time k of the same run
pub record Arrives (k : ℕ) (old new : RunState) : Type 0 where
  pub table : new.table ≡ old.table
  pub steps : new.steps ≡ k
  pub stands : OnRun new

-- it came to time k; or else no such time is there
abbrev pub ComesTo : ℕ → RunState → Bool → RunState → Type 0
ComesTo k old true new = Arrives k old new
ComesTo k old false new = (c : Config) → after (entry_of old.table) k ≡ Some c → ⊥

-- From where a trail of a run follows it, and runs that keep the farthest head on their way.

-- the run of a table had the configuration that was kept, and from there to just before time k the
-- farthest head was at the bound
pub record Follows (p : Packed) (k : ℕ) (side : Dir) (kept : Moment) (bound : ℤ) : Type 0 where
  pub moment : IsMomentOf p kept
  pub farthest : Farthest (entry_of p) side kept.time k bound

-- the runner came to time k, with the farthest head on its way; or else no such time is there
abbrev pub GoesTo : ℕ → Dir → RunState → Option ℤ → RunState → Type 0
GoesTo k side old (Some bound) new = Arrives k old new × Farthest (entry_of old.table) side old.steps k bound
GoesTo k side old None new = (c : Config) → after (entry_of old.table) k ≡ Some c → ⊥
