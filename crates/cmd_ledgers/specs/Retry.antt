-- What `bb retry` comes to: a ledger is gone on with, and its holdouts are tried again.
use Rattle.std.specs.Prelude.{◌≡◌, ℕ, List, Option, ◌⊎◌, [], ◌∷◌, ◌++◌, Some, None, IfSome, Result, OnOk, Ok, Err}
use Rattle.wire.specs.Terms.{IsBegun, grown, shortened}
use Rattle.machine_text.specs.Terms.{Packed}
use Rattle.kind_evidence.specs.declared.verdicts.Ending.{Ending}
use Rattle.cert.specs.Terms.{Recorded, ending_by, with_score}
use Rattle.ledger.specs.Terms.{Contents, IsHoldout, Resolves, resolved, IsLedgerOf, ledger_line, ReadsIn, AreAll}
use Rattle.ledger.specs.declared.header.Format.{Format}
use Rattle.cmd_options.specs.declared.ended.Ended.{Ended}
use Rattle.files.specs.Terms.{Shelf, SameFile, IsKept, IsLedgerAt, IsOpenedOn, IsPut, Bytes}
use Rattle.ledger.specs.declared.loading.Left.{Left}
use Rattle.ledger.specs.declared.loading.Left.TheVariants.{Nothing, From}
use Rattle.cmd_options.specs.Terms.{PrintsNothing}
use Rattle.cmd_ledgers.specs.LedgerReport.{IsLoadedFrom, IsLines}
use Rattle.cmd_options.specs.declared.ended.Outcome.{Outcome}
use Rattle.cmd_ledgers.specs.Merge.{WritesReport}

-- A ledger to which lines are written that were gathered: it may be behind what it is to hold.

-- a ledger's text, where it is known, has more bytes behind it
abbrev pub HasGrown : Option (List ℕ) → Option (List ℕ) → Type 0
HasGrown before after = (gains : List ℕ) × (after ≡ grown before gains)

-- of what a ledger is to hold in all it has gained a beginning
pub record HasPartOf (whole before after : Option (List ℕ)) : Type 0 where
  pub gains : List ℕ
  pub whole_is : whole ≡ grown before gains
  pub begun : IsBegun before gains after

-- A board and its ledger, while holdouts are tried again.

-- where a ledger's text was known and in step with the old board, it is in step with the new one
abbrev pub StaysInStep : Contents → Option (List ℕ) → Contents → Option (List ℕ) → Type 0
StaysInStep old before new after = IfSome before (IsLedgerOf old) → IfSome after (IsLedgerOf new)

-- a board keeps its root and its version, and where nothing ended it early, its ledger has stayed in step
pub record KeepsInStep {T : Type 0} (result : Result T Ended) (old : Contents) (before : Option (List ℕ))
    (new : Contents) (after : Option (List ℕ)) : Type 0 where
  pub root : new.root ≡ old.root
  pub format : new.format ≡ old.format
  pub step : OnOk result (StaysInStep old before new after)

-- the line of a record that a ledger gains, with its score in version 2
abbrev pub gained : Format → Recorded → List ℕ
gained format r = ledger_line format (with_score r) ++ (10 ∷ [])

-- a ledger's text, where it is known, with the line of a record behind it
abbrev pub with_line : Format → Recorded → Option (List ℕ) → Option (List ℕ)
with_line format r text = grown text (gained format r)

-- by the verdict that is shown for a holdout: where there is none nothing changes; else the record stands in the holdout's
-- place, with its score, and its line is appended
abbrev pub ChangesBy : Format → Option Ending → Recorded → List Recorded → Option (List ℕ) → List Recorded
    → Option (List ℕ) → Type 0
ChangesBy format None r old before new after = (new ≡ old) × (after ≡ before)
ChangesBy format (Some v) r old before new after = Resolves old r × (new ≡ resolved old (with_score r))
    × (after ≡ with_line format r before)

-- a holdout is tried: a record of it is answered, and taken where that has a verdict
abbrev pub IsTried : (Packed → Recorded → Type 0) → Format → Packed → List Recorded → Option (List ℕ) → List Recorded
    → Option (List ℕ) → Type 0
IsTried Answers format t old before new after =
    (r : Recorded) × Answers t r × (r.table ≡ t) × ChangesBy format (ending_by r.claim) r old before new after

-- holdouts are tried, one after another
abbrev pub AreTried : (Packed → Recorded → Type 0) → Format → List Packed → List Recorded → Option (List ℕ)
    → List Recorded → Option (List ℕ) → Type 0
AreTried Answers format [] old before new after = (new ≡ old) × (after ≡ before)
AreTried Answers format (t ∷ ts) old before new after =
    (mid : List Recorded) × (text : Option (List ℕ)) × IsTried Answers format t old before mid text
    × AreTried Answers format ts mid text new after

-- what a decider may answer for a table as it is at some time, since it may change while it is asked
abbrev pub AtSomeTime : (D : Type 0) → (D → Packed → Recorded → Type 0) → Packed → Recorded → Type 0
AtSomeTime D answers t r = (d : D) × answers d t r

-- the holdouts that a board had are tried in the order of their texts, in the version of its ledger
abbrev pub AreRetried : (Packed → Recorded → Type 0) → Contents → Option (List ℕ) → Contents → Option (List ℕ) → Type 0
AreRetried Answers old before new after =
    (ts : List Packed) × AreAll (IsHoldout old.records) ts
    × AreTried Answers old.format ts old.records before new.records after

-- nothing has changed
abbrev pub ChangesNothing : List Recorded → Option (List ℕ) → List Recorded → Option (List ℕ) → Type 0
ChangesNothing old before new after = (new ≡ old) × (after ≡ before)

-- the ledger failed under the line of a record: the board has the record, and the ledger no more than a beginning of
-- the line
abbrev pub TearsLineOf : Format → Recorded → List Recorded → Option (List ℕ) → List Recorded → Option (List ℕ) → Type 0
TearsLineOf format r old before new after = Resolves old r × (new ≡ resolved old (with_score r))
    × IsBegun before (gained format r) after

-- what an early end leaves at a holdout: nothing has changed, or the line of a record that was answered for it is torn
abbrev pub MayTear : (Packed → Recorded → Type 0) → Format → Packed → List Recorded → Option (List ℕ) → List Recorded
    → Option (List ℕ) → Type 0
MayTear Answers format t old before new after =
    ChangesNothing old before new after ⊎ ((r : Recorded) × Answers t r × (r.table ≡ t)
    × TearsLineOf format r old before new after)

-- the first of the holdouts that a board had were tried, and the next is left so
pub record TriesFirst (Answers : Packed → Recorded → Type 0) (old : Contents) (before : Option (List ℕ))
    (new : Contents) (after : Option (List ℕ)) : Type 0 where
  pub tried : List Packed
  pub at : Packed
  pub later : List Packed
  pub are_all : AreAll (IsHoldout old.records) (tried ++ at ∷ later)
  pub mid : List Recorded
  pub text : Option (List ℕ)
  pub are_tried : AreTried Answers old.format tried old.records before mid text
  pub ends : MayTear Answers old.format at mid text new.records after

-- what an early end leaves of a ledger, and of a board that has no more records than it: nothing has changed, or the first
-- holdouts were tried, or all
abbrev pub LeavesRetried : (Packed → Recorded → Type 0) → Contents → Option (List ℕ) → Contents → Option (List ℕ)
    → Type 0
LeavesRetried Answers old before new after = ChangesNothing old.records before new.records after
    ⊎ (TriesFirst Answers old before new after ⊎ AreRetried Answers old before new after)

-- nothing has changed, or a holdout was tried
abbrev pub MayTry : (Packed → Recorded → Type 0) → Format → Packed → List Recorded → Option (List ℕ) → List Recorded
    → Option (List ℕ) → Type 0
MayTry Answers format t old before new after =
    ChangesNothing old before new after ⊎ IsTried Answers format t old before new after

-- the first of the holdouts that a board had were tried, or all of them; of what its ledger was to gain by that it has a
-- beginning
pub record HasTried (Answers : Packed → Recorded → Type 0) (old : Contents) (before : Option (List ℕ))
    (new : Contents) (after : Option (List ℕ)) : Type 0 where
  pub tried : List Packed
  pub later : List Packed
  pub are_all : AreAll (IsHoldout old.records) (tried ++ later)
  pub whole : Option (List ℕ)
  pub are_tried : AreTried Answers old.format tried old.records before new.records whole
  pub part : HasPartOf whole before after

-- what an early end leaves of a board, and of its ledger, which may be behind it: nothing has changed, or holdouts were tried
abbrev pub LeavesTried : (Packed → Recorded → Type 0) → Contents → Option (List ℕ) → Contents → Option (List ℕ)
    → Type 0
LeavesTried Answers old before new after = ChangesNothing old.records before new.records after
    ⊎ HasTried Answers old before new after

-- A ledger that is gone on with where it stands: it is read, cut to what is kept of it, and appended to.

-- a ledger's text, where it is known, that is cut to what was kept of it
abbrev pub kept_part : Left → Option (List ℕ) → Option (List ℕ)
kept_part Nothing text = text
kept_part (From line kept why) text = shortened kept text

-- a ledger that failed as it was cut to what was kept of it is as it was, or cut
abbrev pub MayBeCut : Left → Option (List ℕ) → Option (List ℕ) → Type 0
MayBeCut left before after = (after ≡ before) ⊎ (after ≡ kept_part left before)

-- what an early end leaves of the ledger that a reader has in its first bytes: it is as it was; or it was loaded, and
-- is no more than cut to what was kept of it, or was gone on with behind that
abbrev pub LeavesLedger : (Contents → Option (List ℕ) → Contents → Option (List ℕ) → Type 0) → Option (List ℕ) → ℕ
    → Option (List ℕ) → Option (List ℕ) → Type 0
LeavesLedger Leaves has limit before after =
    (after ≡ before) ⊎ ((loaded new : Contents) × (left : Left) × IsLoadedFrom has limit loaded left
    × (MayBeCut left before after ⊎ Leaves loaded (kept_part left before) new after))

-- the ledger at a path is read and gone on with, by what its reader has, how many bytes that is, and its text before
-- and after; nothing changes at any path of another file
pub record GoesOnAt (Does : Option (List ℕ) → ℕ → Option (List ℕ) → Option (List ℕ) → Type 0) (tells : SameFile)
    (path : List ℕ) (old new : Shelf) : Type 0 where
  pub has : Option (List ℕ)
  pub size : ℕ
  pub is_read : IsOpenedOn (old path) has size
  pub before : Option (List ℕ)
  pub is_before : IsLedgerAt (old path) before
  pub after : Option (List ℕ)
  pub does : Does has size before after
  pub is_put : IsPut tells path after old new

-- where that ends early nothing is printed, unless a stream failed; nothing has changed at any path, or the ledger
-- there is left so
abbrev pub LeavesAt : (Contents → Option (List ℕ) → Contents → Option (List ℕ) → Type 0) → SameFile → List ℕ → Shelf
    → Shelf → Option (List ℕ) → Option (List ℕ) → Ended → Type 0
LeavesAt Leaves tells path old new said new_said e = PrintsNothing e said new_said
    × (IsKept old new ⊎ GoesOnAt (LeavesLedger Leaves) tells path old new)

-- What `bb retry` comes to: a ledger is loaded, cut to what is kept of it, its holdouts are tried, and the report of
-- its board is written.

-- from what was kept of a ledger the holdouts of its board are tried, and the report of the board that comes of it is
-- written; where the ledger read as the old board, it is that of the new one
pub record RetriesWhole (Answers : Packed → Recorded → Type 0) (old : Contents) (left : Left)
    (before after said new_said : Option (List ℕ)) (o : Outcome) : Type 0 where
  pub board : Contents
  pub root : board.root ≡ old.root
  pub tried : AreRetried Answers old (kept_part left before) board after
  pub step : IfSome before (λ text. ReadsIn old.format old.root text old.records left) → IfSome after (IsLedgerOf board)
  pub reports : WritesReport IsLines board Nothing said new_said o

-- so it is of the ledger that a reader has in its first bytes
pub record RetriesLedger (Answers : Packed → Recorded → Type 0) (has : Option (List ℕ)) (limit : ℕ)
    (before after said new_said : Option (List ℕ)) (o : Outcome) : Type 0 where
  pub loaded : Contents
  pub left : Left
  pub loads : IsLoadedFrom has limit loaded left
  pub retries : RetriesWhole Answers loaded left before after said new_said o

-- and of the ledger that stands at a path: where its bytes are known, it then is that of the board of which the report
-- tells
pub record RetriesThere (Answers : Packed → Recorded → Type 0) (tells : SameFile) (path : List ℕ) (old new : Shelf)
    (said new_said : Option (List ℕ)) (o : Outcome) : Type 0 where
  pub goes_on : GoesOnAt (λ has size before after. RetriesLedger Answers has size before after said new_said o) tells
      path old new
  pub in_step : (bytes : List ℕ) → old path ≡ Bytes bytes → IfSome goes_on.after (IsLedgerOf goes_on.does.retries.board)

-- a ledger is locked, and retried where it stands
abbrev pub RetriesAt : {K : Type 0} → (Packed → Recorded → Type 0) → (Result (Option K) Ended → Type 0) → SameFile
    → List ℕ → Shelf → Shelf → Option (List ℕ) → Option (List ℕ) → Result Outcome Ended → Type 0
RetriesAt {K} Answers Locks tells path old new said new_said (Ok o) =
    (lock : K) × Locks (Ok (Some lock)) × RetriesThere Answers tells path old new said new_said o
RetriesAt {K} Answers Locks tells path old new said new_said (Err e) =
    LeavesAt (LeavesRetried Answers) tells path old new said new_said e
