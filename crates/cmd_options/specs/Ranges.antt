-- The ranges of the options' numbers.
use Rattle.std.specs.Prelude.{◌≡◌, ◌≤◌, ℕ, Option, None, IfSome}
use Rattle.cmd_options.specs.declared.options.Options.{Options}
use Rattle.cmd_options.specs.declared.options.Options.TheVariants.{Check, Decide, Explain, Show, Tables, Coord, CoordPart, Work, Run, Loop, Retry, Merge, Carry, Mend, Split, Settle, Walk, Join, Look, Draw, Page, Report}
use Rattle.cmd_options.specs.declared.options.Search.{Search}
use Rattle.cmd_options.specs.declared.options.Drawing.{Drawing}
use Rattle.cmd_options.specs.declared.options.Beginning.{Beginning}
use Rattle.cmd_options.specs.declared.options.Listening.{Listening}
use Rattle.cmd_options.specs.declared.options.PartCoordinating.{PartCoordinating}
use Rattle.cmd_options.specs.declared.options.Settling.{Settling}
use Rattle.cmd_options.specs.declared.options.Splitting.{Splitting}
use Rattle.cmd_options.specs.declared.options.Walking.{Walking}
use Rattle.cmd_options.specs.declared.options.Working.{Working}

pub record IsWithinRange (s : Search) : Type 0 where
  pub some_steps : 1 ≤ s.steps
  pub steps : s.steps ≤ 100000000
  pub depth : s.depth ≤ 1000
  pub gram : s.gram ≤ 8
  pub far : s.far ≤ 16
  pub words : s.words ≤ 11
  pub count : s.count ≤ 12
  pub rules : s.rules ≤ 7
  pub a_long_run : 1 ≤ s.long_run
  pub long_run : s.long_run ≤ 100000000

pub record IsBeginning (b : Beginning) : Type 0 where
  pub some_states : 1 ≤ b.states
  pub states : b.states ≤ 7
  pub era : 1 ≤ b.era

pub record IsListening (l : Listening) : Type 0 where
  pub some_connections : 1 ≤ l.per_address
  pub connections : l.per_address ≤ 1000

pub record IsPartCoordinating (c : PartCoordinating) : Type 0 where
  pub era : 1 ≤ c.era
  pub listening : IsListening c.listening

pub record IsSettling (s : Settling) : Type 0 where
  pub some_states : 1 ≤ s.states
  pub states : s.states ≤ 7
  pub some_workers : 1 ≤ s.workers
  pub workers : s.workers ≤ 64
  pub lose : IfSome s.lose (λ every. (2 ≤ every) × (every ≤ 1000))
  pub some_rounds : 1 ≤ s.rounds
  pub rounds : s.rounds ≤ 1000000000
  pub search : IsWithinRange s.search

pub record IsWorking (w : Working) : Type 0 where
  pub some_tries : 1 ≤ w.tries
  pub tries : w.tries ≤ 1000000
  pub first_id : IfSome w.first_id (λ id. id ≤ 4294967232)
  pub some_workers : 1 ≤ w.workers
  pub workers : w.workers ≤ 64
  pub search : IsWithinRange w.search

pub record IsSplitting (s : Splitting) : Type 0 where
  pub some_states : 1 ≤ s.states
  pub states : s.states ≤ 7
  pub filled : s.filled ≤ 14
  pub search : IsWithinRange s.search

pub record IsWalking (w : Walking) : Type 0 where
  pub some_states : 1 ≤ w.states
  pub states : w.states ≤ 7
  pub saving : IfSome w.saving (λ saving. saving.dear ≤ 100000000)
  pub search : IsWithinRange w.search

pub record IsDrawing (d : Drawing) : Type 0 where
  pub some_rows : 1 ≤ d.rows
  pub rows : d.rows ≤ 10000
  pub some_columns : 1 ≤ d.columns
  pub some_pixels : 1 ≤ d.square
  pub pixels : d.square ≤ 1000
  pub some_height : IfSome d.height (λ pixels. 1 ≤ pixels)

-- of the steps of a run alone, where there is one: at least one, and so many at most
abbrev pub IsRunIf : Option ℕ → ℕ → Type 0
IsRunIf run most = IfSome run (λ steps. (1 ≤ steps) × (steps ≤ most))

abbrev pub AreWithinRanges : Options → Type 0
AreWithinRanges (Check checking) = Unit {0}
AreWithinRanges (Decide deciding) = IsWithinRange deciding.search × IsRunIf deciding.run 10000000000
AreWithinRanges (Explain explaining) = IsRunIf explaining.run 10000000000
AreWithinRanges (Show showing) = 1 ≤ showing.every
AreWithinRanges (Tables listing) = listing.steps ≤ 100000000
AreWithinRanges (Coord beginning ledger listening) = IsBeginning beginning × IfSome listening IsListening
AreWithinRanges (CoordPart coordinating) = IsPartCoordinating coordinating
AreWithinRanges (Work working) = IsWorking working
AreWithinRanges (Run settling ledger) = IsSettling settling
AreWithinRanges (Loop settling ledger) = IsSettling settling × (settling.lose ≡ None)
AreWithinRanges (Retry retrying) = IsWithinRange retrying.search
AreWithinRanges (Merge merging) = Unit {0}
AreWithinRanges (Carry carrying) = Unit {0}
AreWithinRanges (Mend mending) = Unit {0}
AreWithinRanges (Split splitting) = IsSplitting splitting
AreWithinRanges (Settle s) = IsWithinRange s.search
AreWithinRanges (Walk walking) = IsWalking walking
AreWithinRanges (Join joining) = Unit {0}
AreWithinRanges (Look looking) = Unit {0}
AreWithinRanges (Draw drawing) = IsDrawing drawing
AreWithinRanges (Page paging) = Unit {0}
AreWithinRanges (Report reporting) = Unit {0}
