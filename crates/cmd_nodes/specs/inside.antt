-- For the code: a coordinator that is served, and the report of its board.
use Rattle.std.specs.Prelude.{◌≡◌, ℕ, ◌<◌, List, Option, Some, Result, Ok, Err, IfSome, length, slice_index_or}
use Rattle.std.specs.Io.KnownBytes.{Appends}
use Rattle.std.specs.declared.io.Error.{Error}
use Rattle.machine_text.specs.Terms.{Packed}
use Rattle.ledger.specs.Terms.{Contents, IsBoard, IsStatus}
use Rattle.ledger.specs.declared.loading.Left.{Left}
use Rattle.ledger.specs.declared.loading.Left.TheVariants.{Nothing}
use Rattle.ledger.specs.declared.faults.Status.{Status}
use Rattle.leases.specs.Terms.{Leased}
use Rattle.lease_core.specs.Terms.{board_of, Coordinating, On, InStep, started}
use Rattle.files.specs.declared.opened.Opened.{Opened}
use Rattle.cmd_ledgers.specs.Terms.{outcome_by, IsLoadedFrom, FormText}
use Rattle.cmd_options.specs.declared.ended.Outcome.{Outcome}
use Rattle.cmd_nodes.specs.declared.rounds.Station.{Station}
use Rattle.cmd_nodes.specs.Served.{Becomes, NoneOpen}
use Rattle.cmd_nodes.specs.Settled.{IsOfLedger}

-- the board of a coordinator has this root
abbrev pub IsOfRoot : Packed → Coordinating → Type 0
IsOfRoot root c = (held : Leased) × (c.held ≡ Some held) × (held.board.root ≡ root)

-- a ledger whose text is known, and was in step, is in step
abbrev pub KeepsStep : {N : Type 0} → (N → List ℕ → Type 0) → N → N → Option (List ℕ) → Option (List ℕ) → Type 0
KeepsStep in_step old new before after = IfSome before (in_step old) → IfSome after (in_step new)

-- a coordinator answered in turn, and its ledger is kept in step
pub record IsServed (old new : Coordinating) (before after : Option (List ℕ)) : Type 0 where
  pub became : Becomes On old new
  pub step : KeepsStep (λ c text. InStep c text) old new before after

-- a ledger that held what was opened of it is in step with the coordinator that began with that
abbrev pub StartsInStep : {F : Type 0} → (F → Option (List ℕ)) → Result (Opened F) Error → Option (List ℕ)
    → Option (List ℕ) → Coordinating → Type 0
StartsInStep remaining (Ok opened) old new c = IsOfLedger (remaining opened.reader) opened.length old
    → IfSome new (InStep c)
StartsInStep remaining (Err fault) old new c = Unit {0}

-- no table of the board that a coordinator holds is open
abbrev pub IsSettled : Coordinating → Type 0
IsSettled c = IfSome (board_of c.held) NoneOpen

-- each worker became so, at its place
abbrev pub EachBecomes : {N Y : Type 0} → (N → N → Type 0) → List (Station N Y) → List (Station N Y) → Type 0
EachBecomes {N} {Y} Became old new = (length new ≡ length old) × ((k : ℕ) (d : Station N Y) → k < length old
    → Became (slice_index_or old k d).worker (slice_index_or new k d).worker)

-- a coordinator began with the board that was loaded of the ledger that a reader has in its first bytes, and its ledger is in
-- step with it, where that held no more
pub record StartsPart (era : ℕ) (has : Option (List ℕ)) (limit : ℕ) (before after : Option (List ℕ))
    (c : Coordinating) : Type 0 where
  pub loaded : Contents
  pub left : Left
  pub loads : IsLoadedFrom has limit loaded left
  pub is : c ≡ started era loaded
  pub step : IsOfLedger has limit before → IfSome after (InStep c)

-- the report of a board is written in a form, and the outcome is by how the board stands
pub record ReportsBoard (IsText : FormText) (board : Contents) (held new_held : Option (List ℕ))
    (o : Outcome) : Type 0 where
  pub is_board : IsBoard board
  pub status : Status
  pub stands : IsStatus board.root board.records status
  pub written : List ℕ
  pub is_text : IsText board.root board.records Nothing written
  pub appends : Appends held new_held written
  pub ends : o ≡ outcome_by status Nothing
