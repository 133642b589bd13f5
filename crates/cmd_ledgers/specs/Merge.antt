-- Ledgers that are merged, carried over, reported or mended, and what that comes to by what stands at their paths.
use Rattle.std.specs.Prelude.{◌≡◌, ℕ, ◌-◌, List, [], ◌∷◌, ◌++◌, Option, Some, None, Ok, codes, decimal, Bool, true, false, Result, Err, ◌⊎◌, ⊤, ◌+◌, length}
use Rattle.std.specs.Io.KnownBytes.{Appends}
use Rattle.std.proofs.Common.{zero, suc}
use Rattle.ledger.specs.Terms.{Contents, IsBoard, ReadsIn, ledger_text, HasHeader, MergeGives, IsTally, IsStatus, AreKept, held}
use Rattle.ledger.specs.declared.loading.Left.{Left}
use Rattle.ledger.specs.declared.loading.Left.TheVariants.{Nothing, From}
use Rattle.ledger.specs.declared.counts.Tally.{Tally}
use Rattle.cmd_ledgers.specs.LedgerReport.{left_text, outcome_by}
use Rattle.cmd_options.specs.declared.ended.Outcome.{Outcome}
use Rattle.cmd_options.specs.declared.ended.Outcome.TheVariants.{Accepted, Refused}
use Rattle.machine_text.specs.Terms.{Packed}
use Rattle.cert.specs.Terms.{Recorded, record_of}
use Rattle.ledger.specs.declared.faults.Status.{Status}
use Rattle.cmd_options.specs.Terms.{PrintsNothing}
use Rattle.cmd_options.specs.declared.ended.Ended.{Ended}
use Rattle.files.specs.Terms.{Shelf, Known, SameFile, Unknown, Missing, Bytes, IsBlank, IsKept, IsPut}
use Rattle.cmd_options.specs.declared.ended.Ended.TheVariants.{Stream}
use Rattle.cert.specs.declared.record.RecordFault.{RecordFault}
use Rattle.cmd_lines.specs.Terms.{AreLines}

-- Two ledgers that are read one after the other, and merged.

-- what a ledger that is read may hold
abbrev pub Readings : Type 1
Readings = List ℕ → Type 0

-- what is loaded of it: its bytes stand for the records of a board, in its version, up to what is left
abbrev pub IsLoaded : Readings → Contents × Left → Type 0
IsLoaded reads l = (bytes : List ℕ) × reads bytes × ReadsIn l.0.format l.0.root bytes l.0.records l.1

-- what is told as left of two ledgers: of the first, where not all of it was kept
abbrev pub first_left : Left → Left → Left
first_left Nothing other = other
first_left (From line kept why) other = From line kept why

-- the records for which a text stands are taken into a board of the same root, whatever version either has
abbrev pub TakesIn : Contents → List ℕ → Left → Contents → Type 0
TakesIn old text left new =
    (other : Contents) × ReadsIn other.format other.root text other.records left × MergeGives old other (Ok tt) new
    × (new.root ≡ old.root) × (new.format ≡ old.format)

-- the second ledger is read once the first one is loaded, and its records are taken into the first one's board
abbrev pub AreMerged : Readings → Readings → Contents × Left → Type 0
AreMerged one other merged =
    (first : Contents × Left) × (bytes : List ℕ) × (left : Left) × IsLoaded one first × other bytes
    × TakesIn first.0 bytes left merged.0 × (merged.1 ≡ first_left first.1 left)

-- what a ledger holds, where that is known, once it is made to hold that of a board, in version 2, and nothing else
abbrev pub rewritten : Contents → Option (List ℕ) → Option (List ℕ)
rewritten b (Some text) = Some (ledger_text b.root b.records)
rewritten b None = None

-- two ledgers are merged, and a third holds what they come to, which is told
abbrev pub MergesInto : Readings → Readings → Tally → Left → Option (List ℕ) → Option (List ℕ) → Type 0
MergesInto one other tally left before after =
    (b : Contents) × AreMerged one other (b, left) × IsTally b.root b.records tally × (after ≡ rewritten b before)

-- accepted where all was kept
abbrev pub outcome_of_left : Left → Outcome
outcome_of_left Nothing = Accepted
outcome_of_left (From line kept why) = Refused

-- a count behind its name
abbrev pub count_text : List ℕ → ℕ → List ℕ
count_text name count = name ++ decimal count

-- what is printed of two ledgers that are merged
abbrev pub merged_text : Tally → Left → List ℕ
merged_text tally left =
    count_text (codes "merged ") (tally.nodes - tally.open_count) ++ count_text (codes " open ") tally.open_count
    ++ count_text (codes " holdouts ") tally.holdouts ++ (10 ∷ []) ++ left_text left

-- A ledger that is carried over to another file, as version 2.

-- a ledger is loaded, and another holds what was loaded, which is told
abbrev pub CarriesInto : Readings → Tally → Left → Option (List ℕ) → Option (List ℕ) → Type 0
CarriesInto from tally left before after =
    (b : Contents) × IsLoaded from (b, left) × IsTally b.root b.records tally × (after ≡ rewritten b before)

-- what is printed of a ledger that is carried
abbrev pub carried_text : Tally → Left → List ℕ
carried_text tally left =
    count_text (codes "carried ") (tally.nodes - tally.open_count) ++ count_text (codes " halting ") tally.halting
    ++ (10 ∷ []) ++ left_text left

-- What `bb report` comes to, by what may be read of its ledger.

-- behind what a writer held stands, in a form, the report of a board, and what wasn't kept of its ledger; the command
-- ends by how the board stands, and by that
pub record WritesReport (IsText : Packed → List Recorded → Left → List ℕ → Type 0) (b : Contents) (left : Left)
    (held new_held : Option (List ℕ)) (o : Outcome) : Type 0 where
  pub is_board : IsBoard b
  pub text : List ℕ
  pub is_text : IsText b.root b.records left text
  pub appends : Appends held new_held text
  pub status : Status
  pub stands : IsStatus b.root b.records status
  pub ends : o ≡ outcome_by status left

-- the report of what a ledger is loaded as is written
abbrev pub ReportsFrom : (Packed → List Recorded → Left → List ℕ → Type 0) → Readings → Option (List ℕ)
    → Option (List ℕ) → Result Outcome Ended → Type 0
ReportsFrom IsText reads held new_held (Ok o) = (b : Contents) × (left : Left) × IsLoaded reads (b, left)
    × WritesReport IsText b left held new_held o
ReportsFrom IsText reads held new_held (Err e) = PrintsNothing e held new_held

-- where it is asked for, something may be said of what wasn't kept; else nothing is, nor where that ends early, but for
-- a stream
abbrev pub SaysWhy : Bool → Result Outcome Ended → Option (List ℕ) → Option (List ℕ) → Type 0
SaysWhy false ended said new_said = new_said ≡ said
SaysWhy true (Ok o) said new_said = (text : List ℕ) × Appends said new_said text
SaysWhy true (Err e) said new_said = PrintsNothing e said new_said

-- What commands that write a ledger anew come to, by what stands at their paths.

-- these are the bytes that stand at a path
abbrev pub IsAt : Known → List ℕ → Type 0
IsAt Unknown text = ⊤
IsAt Missing text = ⊥
IsAt (Bytes bytes) text = text ≡ bytes

-- a ledger of a board is put at a path
abbrev pub PutsLedger : SameFile → List ℕ → Contents → Shelf → Shelf → Type 0
PutsLedger tells out b old new = (begun : Option (List ℕ)) × IsBlank begun × IsPut tells out (rewritten b begun) old new

-- where a command ended early, nothing has changed at any path and nothing is printed; or the stream failed, once a
-- ledger was put
abbrev pub LeavesOut : Ended → Shelf → Shelf → Option (List ℕ) → Option (List ℕ) → Type 0 → Type 0
LeavesOut e old new held new_held IsPutFirst = (IsKept old new × (new_held ≡ held)) ⊎ ((e ≡ Stream) × IsPutFirst)

-- a ledger of what two hold together is put at a path, and what it holds is printed
abbrev pub MergesAt : SameFile → List ℕ → List ℕ → List ℕ → Shelf → Shelf → Option (List ℕ) → Option (List ℕ)
    → Result Outcome Ended → Type 0
MergesAt tells one other out old new held new_held (Ok o) =
    (b : Contents) × (tally : Tally) × (left : Left)
    × AreMerged (IsAt (old one)) (IsAt (old other)) (b, left) × IsTally b.root b.records tally
    × PutsLedger tells out b old new × Appends held new_held (merged_text tally left) × (o ≡ outcome_of_left left)
MergesAt tells one other out old new held new_held (Err e) =
    LeavesOut e old new held new_held ((b : Contents) × (left : Left)
    × AreMerged (IsAt (old one)) (IsAt (old other)) (b, left) × PutsLedger tells out b old new)

-- and a ledger of what one holds, in the same way
abbrev pub CarriesAt : SameFile → List ℕ → List ℕ → Shelf → Shelf → Option (List ℕ) → Option (List ℕ)
    → Result Outcome Ended → Type 0
CarriesAt tells from out old new held new_held (Ok o) =
    (b : Contents) × (tally : Tally) × (left : Left) × IsLoaded (IsAt (old from)) (b, left)
    × IsTally b.root b.records tally
    × PutsLedger tells out b old new × Appends held new_held (carried_text tally left) × (o ≡ outcome_of_left left)
CarriesAt tells from out old new held new_held (Err e) =
    LeavesOut e old new held new_held ((b : Contents) × (left : Left) × IsLoaded (IsAt (old from)) (b, left)
    × PutsLedger tells out b old new)

-- What is kept of the lines of a damaged ledger.

-- the records as which lines read, in their order; a line that doesn't read is passed over
abbrev pub with_read : Result Recorded RecordFault → List Recorded → List Recorded
with_read (Ok r) rs = r ∷ rs
with_read (Err fault) rs = rs

abbrev pub records_of_lines : List (List ℕ) → List Recorded
records_of_lines [] = []
records_of_lines (line ∷ lines) = with_read (record_of line) (records_of_lines lines)

-- of the lines behind the header of a root the records are kept that are fit in their turn (one whose check may overflow
-- may be left out), and held are those, each with its score, and each that a later one settles replaced by that one; all
-- other lines are dropped
pub record AreMended (root : Packed) (lines : List (List ℕ)) (rs : List Recorded) (dropped : ℕ) : Type 0 where
  pub kept : List Recorded
  pub fit : AreKept root [] (records_of_lines lines) kept
  pub is_held : rs ≡ held kept
  pub others : dropped + length kept ≡ length lines

-- of a text: a header, and lines; the last one needs no newline
pub record IsMended (text : List ℕ) (b : Contents) (dropped : ℕ) : Type 0 where
  pub rest : List ℕ
  pub header : HasHeader text b.root rest
  pub lines : List (List ℕ)
  pub are_lines : AreLines rest lines
  pub mended : AreMended b.root lines b.records dropped

-- a ledger comes to hold what is kept of a text, which is told
abbrev pub MendsInto : List ℕ → Tally → ℕ → Option (List ℕ) → Option (List ℕ) → Type 0
MendsInto text tally dropped before after =
    (b : Contents) × IsMended text b dropped × IsTally b.root b.records tally × (after ≡ rewritten b before)

-- what is printed
abbrev pub mended_text : Tally → ℕ → List ℕ
mended_text tally dropped = codes "mended " ++ decimal (tally.nodes - tally.open_count) ++ codes " dropped "
    ++ decimal dropped ++ 10 ∷ []

-- accepted where each line was taken
abbrev pub outcome_of_dropped : ℕ → Outcome
outcome_of_dropped zero = Accepted
outcome_of_dropped (suc dropped) = Refused

-- a ledger of what is kept of a text, which may be read so, is put at a path, and that is told
abbrev pub MendsAt : (List ℕ → Type 0) → SameFile → List ℕ → Shelf → Shelf → Option (List ℕ) → Option (List ℕ)
    → Result Outcome Ended → Type 0
MendsAt Reads tells out old new held new_held (Ok o) =
    (text : List ℕ) × Reads text × ((b : Contents) × (tally : Tally) × (dropped : ℕ) × IsMended text b dropped
    × IsTally b.root b.records tally
    × PutsLedger tells out b old new × Appends held new_held (mended_text tally dropped)
    × (o ≡ outcome_of_dropped dropped))
MendsAt Reads tells out old new held new_held (Err e) =
    LeavesOut e old new held new_held ((text : List ℕ) × Reads text
    × ((b : Contents) × (dropped : ℕ) × IsMended text b dropped × PutsLedger tells out b old new))
