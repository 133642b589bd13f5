-- What a ledger holds in the end of what was opened of it, and what a coordinator holds.
use Rattle.std.specs.Prelude.{◌≡◌, ◌⊎◌, ℕ, List, All, Option, Some, Result, Ok, Err, IfSome, length}
use Rattle.std.specs.declared.io.Error.{Error}
use Rattle.machine_text.specs.Terms.{empty_table}
use Rattle.ledger.specs.Terms.{Contents, IsBoard, IsLedgerOf, IsStatus}
use Rattle.ledger.specs.declared.loading.Left.{Left}
use Rattle.ledger.specs.declared.loading.Left.TheVariants.{Nothing}
use Rattle.ledger.specs.declared.faults.Status.{Status}
use Rattle.cmd_ledgers.specs.Terms.{outcome_by, IsLoadedFrom, FormText, ReportsTree}
use Rattle.files.specs.declared.opened.Opened.{Opened}
use Rattle.cmd_options.specs.Terms.{PrintsNothing}
use Rattle.cmd_options.specs.declared.ended.Ended.{Ended}
use Rattle.cmd_options.specs.declared.ended.Outcome.{Outcome}
use Rattle.cmd_options.specs.declared.options.Settling.{Settling}
use Rattle.lease_core.specs.Terms.{Coordinating, started}
use Rattle.wire.specs.Terms.{Answering}
use Rattle.cmd_nodes.specs.Served.{HasTakenRounds, IsBegunFrom, ComesToHold, NoneOpen, HasListened, Traffic}
use Rattle.peers.specs.declared.guarded.Conduct.{Conduct}
use Rattle.peers.specs.Terms.{Taking}

-- what a ledger holds is what was opened of it, to its last byte
pub record IsOfLedger (has : Option (List ℕ)) (len : ℕ) (text : Option (List ℕ)) : Type 0 where
  pub bytes : List ℕ
  pub is_read : has ≡ Some bytes
  pub is_all : len ≡ length bytes
  pub is_held : text ≡ Some bytes

-- a ledger that held what was opened of it holds a board's in the end
abbrev pub KeepsLedger : {F : Type 0} → (F → Option (List ℕ)) → Result (Opened F) Error → Option (List ℕ)
    → Option (List ℕ) → Contents → Type 0
KeepsLedger remaining (Ok opened) old new board = IsOfLedger (remaining opened.reader) opened.length old
    → IfSome new (IsLedgerOf board)
KeepsLedger remaining (Err fault) old new board = Unit {0}

-- the board is that of a coordinator of the tree of n states which began with what was opened of its ledger and answered in
-- turn, and its ledger is kept
pub record IsServedBoard {F : Type 0} (n era : ℕ) (remaining : F → Option (List ℕ)) (held : Result (Opened F) Error)
    (old new : Option (List ℕ)) (board : Contents) : Type 0 where
  pub first : Coordinating
  pub begins : IsBegunFrom n era remaining held first
  pub comes : ComesToHold first board
  pub kept : KeepsLedger remaining held old new board

-- no table of it is open, and what came over connections until then, that coordinator listened to
abbrev pub IsSettledBoard : {F : Type 0} → ℕ → ℕ → (F → Option (List ℕ)) → Result (Opened F) Error → Conduct → Taking
    → Option (List ℕ) → Option (List ℕ) → Traffic → Traffic → Contents → Type 0
IsSettledBoard n era remaining held conduct takes old new before after board =
    (is : IsServedBoard n era remaining held old new board) × NoneOpen board
    × HasListened conduct takes is.first is.comes.last new before after

-- in a run: no table of it is open, or each worker has taken all of its rounds
abbrev pub IsRunBoard : {F N : Type 0} → Answering N → Settling → List N → (F → Option (List ℕ))
    → Result (Opened F) Error → Option (List ℕ) → Option (List ℕ) → Contents → Type 0
IsRunBoard answers run workers remaining held old new board = IsServedBoard run.states 1 remaining held old new board
    × (NoneOpen board ⊎ All (HasTakenRounds answers run.rounds) workers)

-- what a coordinator holds in the end: a board of the tree of n states, whose ledger is kept; the outcome is by how it
-- stands
pub record CoordinatesTree (n : ℕ) (IsKept : Contents → Type 0) (o : Outcome) : Type 0 where
  pub board : Contents
  pub is_board : IsBoard board
  pub root : board.root ≡ empty_table n
  pub kept : IsKept board
  pub status : Status
  pub stands : IsStatus board.root board.records status
  pub ends : o ≡ outcome_by status Nothing

-- from the ledger that a reader has in its first bytes, of whatever root, a board was loaded; a coordinator that began with it
-- listened to what came over connections, until no table was open; and the report of its board, of the same root, is written, whose ledger it is in
-- the end where it was all that the ledger held; the outcome is by how it stands
pub record ReportsPart (IsText : FormText) (era : ℕ) (has : Option (List ℕ)) (limit : ℕ) (conduct : Conduct)
    (takes : Taking) (old new : Traffic) (before after said new_said : Option (List ℕ)) (o : Outcome) : Type 0 where
  pub loaded : Contents
  pub left : Left
  pub loads : IsLoadedFrom has limit loaded left
  pub board : Contents
  pub comes : ComesToHold (started era loaded) board
  pub none_open : NoneOpen board
  pub listened : HasListened conduct takes (started era loaded) comes.last after old new
  pub reports : ReportsTree IsText loaded.root (λ b. IsOfLedger has limit before → IfSome after (IsLedgerOf b)) said
      new_said board
  pub status : Status
  pub stands : IsStatus board.root board.records status
  pub ends : o ≡ outcome_by status Nothing

-- what ends that early ends it before anything is written, unless a stream fails
abbrev pub SettlesPart : FormText → ℕ → Option (List ℕ) → ℕ → Conduct → Taking → Traffic → Traffic → Option (List ℕ)
    → Option (List ℕ) → Option (List ℕ) → Option (List ℕ) → Result Outcome Ended → Type 0
SettlesPart IsText era has limit conduct takes old new before after said new_said (Ok o) =
    ReportsPart IsText era has limit conduct takes old new before after said new_said o
SettlesPart IsText era has limit conduct takes old new before after said new_said (Err e) =
    PrintsNothing e said new_said

-- a coordinator has begun with the board that was loaded of that ledger
abbrev pub IsBegunOfPart : ℕ → Option (List ℕ) → ℕ → Coordinating → Type 0
IsBegunOfPart era has limit first =
    (loaded : Contents) × (left : Left) × IsLoadedFrom has limit loaded left × (first ≡ started era loaded)
