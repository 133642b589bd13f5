-- Open tables that are settled one after another, and a tree that is split: a trunk, and a ledger for each table left open.
use Rattle.std.specs.Prelude.{◌≡◌, ◌⊎◌, ℕ, zero, suc, ◌-◌, ◌*◌, ◌<◌, List, [], ◌∷◌, ◌++◌, Option, codes, decimal, Result, All, ◌≤◌, nat_lt, ◌==◌, if◌then◌else◌, length, Some, None, IfSome, Ok}
use Rattle.std.specs.Ordering.{nat_cmp}
use Rattle.std.specs.declared.cmp.Ordering.TheVariants.{Less}
use Rattle.std.specs.Cmp.Lexicographic.{slice_cmp}
use Rattle.std.specs.Io.KnownBytes.{Appends}
use Rattle.machine_text.specs.Terms.{Packed, entry_of, holes, empty_table, text_of}
use Rattle.cert.specs.Terms.{Recorded, with_score}
use Rattle.ledger.specs.Terms.{Contents, IsOpenOn, IsFit, mark_in, IsTally, IsGreatestCount, IsGreatestOnes, IsLedgerOf, LoadGives, header_words}
use Rattle.wire.specs.Terms.{IsBegun, grown, shortened}
use Rattle.cmd_ledgers.specs.Terms.{HasPartOf, gained, with_line, kept_part, IsLoadedFrom, AreFirstBytes, EndsByReport, FormText, ReportsIncomplete, ReportsTree, TellsByReport}
use Rattle.ledger.specs.declared.loading.Left.{Left}
use Rattle.ledger.specs.declared.counts.Tally.{Tally}
use Rattle.law_turing.specs.Terms.{HaltsAt}
use Rattle.law_tree.specs.Terms.{Scores, IsComplete, IsBestOfTable}
use Rattle.totals.specs.Terms.{IsAnswered}
use Rattle.cmd_options.specs.declared.ended.Outcome.{Outcome}
use Rattle.cmd_options.specs.declared.ended.Ended.{Ended}
use Rattle.ledger.specs.declared.header.Format.TheVariants.{Two}
use Rattle.ledger.specs.declared.loading.Left.TheVariants.{Nothing, From}

-- Open tables of a board that are settled one after another, and the ledger that is kept of them.

-- the open table whose text comes first
abbrev pub ComesFirst : Contents → Packed → Type 0
ComesFirst b t = IsOpenOn b t × ((q : Packed) → IsOpenOn b q → (q ≡ t)
    ⊎ (slice_cmp nat_cmp (text_of t) (text_of q) ≡ Less))

-- how many of a table's entries are filled
abbrev pub filled_count : Packed → ℕ
filled_count p = 2 * p.states - holes p.states (entry_of p)

-- an open table with fewer filled entries than so many
abbrev pub IsOpenBelow : ℕ → Contents → Packed → Type 0
IsOpenBelow limit b t = IsOpenOn b t × (filled_count t < limit)

-- the board with one more record, which comes last, with its score
abbrev pub with_last : Contents → Recorded → Contents
with_last b r = record { root = b.root; records = b.records ++ (with_score r ∷ []); format = b.format }

-- a record may come next: its table is due, and it is what was answered for that, whatever it says; so it is fit
pub record ComesNext (Answers : Packed → Recorded → Type 0) (IsDue : Contents → Packed → Type 0) (b : Contents)
    (r : Recorded) : Type 0 where
  pub due : IsDue b r.table
  pub answered : Answers r.table r
  pub fit : IsFit b.root b.records r

-- a table is settled: its record comes last on the board, and the line of that last in the ledger
pub record SettlesOne (Answers : Packed → Recorded → Type 0) (IsDue : Contents → Packed → Type 0) (old : Contents)
    (before : Option (List ℕ)) (new : Contents) (after : Option (List ℕ)) : Type 0 where
  pub made : Recorded
  pub next : ComesNext Answers IsDue old made
  pub board : new ≡ with_last old made
  pub text : after ≡ with_line old.format made before

-- so many tables are settled, one after another
abbrev pub SettlesMany : (Packed → Recorded → Type 0) → (Contents → Packed → Type 0) → ℕ → Contents → Option (List ℕ)
    → Contents → Option (List ℕ) → Type 0
SettlesMany Answers IsDue zero old before new after = (new ≡ old) × (after ≡ before)
SettlesMany Answers IsDue (suc k) old before new after =
    (mid : Contents) × (text : Option (List ℕ)) × SettlesMany Answers IsDue k old before mid text
    × SettlesOne Answers IsDue mid text new after

-- the ledger fails under the line of a record: the board has the record, and the ledger no more than a beginning of the line
pub record TearsLine (Answers : Packed → Recorded → Type 0) (IsDue : Contents → Packed → Type 0) (old : Contents)
    (before : Option (List ℕ)) (new : Contents) (after : Option (List ℕ)) : Type 0 where
  pub made : Recorded
  pub next : ComesNext Answers IsDue old made
  pub board : new ≡ with_last old made
  pub text : IsBegun before (gained old.format made) after

-- what an early end leaves at one table: nothing has changed, or its line is torn
abbrev pub MayTearLine : (Packed → Recorded → Type 0) → (Contents → Packed → Type 0) → Contents → Option (List ℕ)
    → Contents → Option (List ℕ) → Type 0
MayTearLine Answers IsDue old before new after =
    ((new ≡ old) × (after ≡ before)) ⊎ TearsLine Answers IsDue old before new after

-- and of all, where the board has no more records than the ledger: the tables that were settled before stay so
abbrev pub LeavesSettled : (Packed → Recorded → Type 0) → (Contents → Packed → Type 0) → Contents → Option (List ℕ)
    → Contents → Option (List ℕ) → Type 0
LeavesSettled Answers IsDue old before new after =
    (k : ℕ) × (mid : Contents) × (text : Option (List ℕ)) × SettlesMany Answers IsDue k old before mid text
    × MayTearLine Answers IsDue mid text new after

-- nothing has changed, or a table is settled
abbrev pub MaySettle : (Packed → Recorded → Type 0) → (Contents → Packed → Type 0) → Contents → Option (List ℕ)
    → Contents → Option (List ℕ) → Type 0
MaySettle Answers IsDue old before new after =
    ((new ≡ old) × (after ≡ before)) ⊎ SettlesOne Answers IsDue old before new after

-- what an early end leaves of a board, and of its ledger, which may be behind it: so many tables are settled, and of what
-- the ledger was to gain by that it has a beginning
pub record LeavesPart (Answers : Packed → Recorded → Type 0) (IsDue : Contents → Packed → Type 0) (old : Contents)
    (before : Option (List ℕ)) (new : Contents) (after : Option (List ℕ)) : Type 0 where
  pub count : ℕ
  pub whole : Option (List ℕ)
  pub many : SettlesMany Answers IsDue count old before new whole
  pub part : HasPartOf whole before after

-- A ledger that is settled: loaded, cut to what is kept of it, and gone on with until no table of its board is open.

-- the line that says how many tables were settled, and how many holdouts there are
abbrev pub settled_text : ℕ → ℕ → List ℕ
settled_text count holdouts = codes "settled " ++ decimal count ++ codes " holdouts " ++ decimal holdouts ++ 10 ∷ []

-- a board and its ledger, from what was kept of that, are settled until no table is open, and this is told
pub record SettlesWhole (Answers : Packed → Recorded → Type 0) (old : Contents) (left : Left)
    (before after : Option (List ℕ)) (told : List ℕ) : Type 0 where
  pub count : ℕ
  pub board : Contents
  pub many : SettlesMany Answers ComesFirst count old (kept_part left before) board after
  pub none_open : (t : Packed) → IsOpenOn board t → ⊥
  pub tally : Tally
  pub counted : IsTally board.root board.records tally
  pub is : told ≡ settled_text count tally.holdouts

-- the ledger that a reader has in its first bytes is loaded and settled, which is told behind what was said before
pub record SettlesLedger (Answers : Packed → Recorded → Type 0) (has : Option (List ℕ)) (limit : ℕ)
    (before after said new_said : Option (List ℕ)) : Type 0 where
  pub loaded : Contents
  pub left : Left
  pub told : List ℕ
  pub loads : IsLoadedFrom has limit loaded left
  pub settles : SettlesWhole Answers loaded left before after told
  pub says : Appends said new_said told

-- What is printed of a tree that is walked, by how the command ends.

-- the records of a board are what a decider answered for their tables
abbrev pub AreAnswers : (D : Type 0) → (D → Packed → Recorded → Type 0) → Contents → Type 0
AreAnswers D answers board = All (IsAnswered D answers) board.records

-- and none of its tree is left open: it has a record of each table that is there to be walked
abbrev pub IsWalkedBoard : (D : Type 0) → (D → Packed → Recorded → Type 0) → Contents → Type 0
IsWalkedBoard D answers board = AreAnswers D answers board × ((t : Packed) → IsOpenOn board t → ⊥)

-- the board is complete: its best is the greatest number of steps of all extensions of the root that halt, in tree normal
-- form or not, and its ones are their greatest score
pub record ReportsClosed (IsText : FormText) (root : Packed) (IsKept : Contents → Type 0)
    (held new_held : Option (List ℕ)) : Type 0 where
  pub board : Contents
  pub reports : ReportsTree IsText root IsKept held new_held board
  pub complete : IsComplete board.root (mark_in board.records)
  pub best : Option ℕ
  pub is_best : IsGreatestCount board.records best
  pub is_greatest : IsBestOfTable HaltsAt root best
  pub ones : Option ℕ
  pub are_ones : IsGreatestOnes board.records ones
  pub are_greatest : IsBestOfTable Scores root ones

-- of the tree of a root: with all accepted, the report of a complete board is written; with a refusal, that of one that isn't
-- complete
abbrev pub WalksTree : FormText → Packed → (Contents → Type 0) → Option (List ℕ) → Option (List ℕ)
    → Result Outcome Ended → Type 0
WalksTree IsText root IsKept held new_held ended = EndsByReport (ReportsClosed IsText root IsKept held new_held)
    (ReportsIncomplete IsText root IsKept held new_held) held new_held ended

abbrev pub TellsWalk : FormText → Packed → (Contents → Type 0) → Option (List ℕ) → Option (List ℕ) → Outcome → Type 0
TellsWalk IsText root IsKept held new_held outcome = TellsByReport (ReportsClosed IsText root IsKept held new_held)
    (ReportsIncomplete IsText root IsKept held new_held) held new_held outcome

-- A tree that is split: a trunk, whose tables of few entries are settled, and a ledger for each table that it leaves open.

-- the path of a ledger in a folder
abbrev pub path_within : List ℕ → List ℕ → List ℕ
path_within folder name = folder ++ codes "/" ++ name ++ codes ".ledger"

-- the header of a ledger that is begun: of version 2
abbrev pub begun_header : Packed → List ℕ
begun_header root = header_words Two ++ text_of root ++ (10 ∷ [])

-- a part's ledger of so many bytes, where its text is known: it is left as it is, but where it is shorter than its header, and
-- is begun anew
abbrev pub begun_part : Packed → ℕ → Option (List ℕ) → Option (List ℕ)
begun_part root bytes None = None
begun_part root bytes (Some text) = Some (if nat_lt bytes (length (begun_header root)) then begun_header root else text)

-- what an early end leaves of it: it is as it was; or it was shorter than its header, of which it has a beginning
abbrev pub LeavesBegun : Packed → ℕ → Option (List ℕ) → Option (List ℕ) → Type 0
LeavesBegun root bytes before after = (after ≡ before)
    ⊎ ((bytes < length (begun_header root)) × IsBegun (shortened 0 before) (begun_header root) after)

-- how much is kept of a ledger of so many bytes
abbrev pub kept_size : ℕ → Left → ℕ
kept_size bytes Nothing = bytes
kept_size bytes (From line kept why) = kept

-- what a trunk's ledger gains before it is gone on with: a header, where nothing of it was kept
abbrev pub due_header : Packed → ℕ → List ℕ
due_header root kept = if kept == 0 then begun_header root else []

-- a trunk's ledger, where its text is known, that is cut to what was kept of it, and has a header
abbrev pub begun_trunk : Packed → ℕ → Left → Option (List ℕ) → Option (List ℕ)
begun_trunk root bytes left text = grown (kept_part left text) (due_header root (kept_size bytes left))

-- the trunk of the tree of n states that a reader has in its first bytes is loaded, and settled until each open table has so
-- many filled entries
pub record GrowsTrunk (HasNoPart : Packed → Type 0) (Answers : Packed → Recorded → Type 0) (n limit : ℕ)
    (has : Option (List ℕ)) (size : ℕ) (before : Option (List ℕ)) (new : Contents)
    (after : Option (List ℕ)) : Type 0 where
  pub text : List ℕ
  pub first : AreFirstBytes has size text
  pub loaded : Contents
  pub left : Left
  pub loads : LoadGives (empty_table n) text (Ok (loaded, left))
  -- none of the tables to be settled had a part
  pub unsplit : (t : Packed) → IsOpenBelow limit loaded t → HasNoPart t
  pub count : ℕ
  pub many : SettlesMany Answers (IsOpenBelow limit) count loaded
      (begun_trunk (empty_table n) (length text) left before) new after
  pub none_below : (t : Packed) → IsOpenOn new t → limit ≤ filled_count t
  -- where that was the whole ledger, it is the ledger of the trunk
  pub step : before ≡ Some text → IfSome after (IsLedgerOf new)

-- what an early end leaves of a trunk's ledger of so many bytes that was loaded: it is as it was; or behind what was kept
-- of it stands a beginning of the header that is due, or what was settled behind that
abbrev pub LeavesGrown : (Packed → Recorded → Type 0) → ℕ → Contents → ℕ → Left → Option (List ℕ) → Option (List ℕ)
    → Type 0
LeavesGrown Answers limit loaded bytes left before after =
    ((after ≡ before) ⊎ IsBegun (kept_part left before) (due_header loaded.root (kept_size bytes left)) after)
    ⊎ ((new : Contents)
    × LeavesSettled Answers (IsOpenBelow limit) loaded (begun_trunk loaded.root bytes left before) new after)

-- and of that which a reader has in its first bytes: it is as it was; or it was loaded as the trunk of the tree of n states,
-- none of the tables to be settled had a part, and it is left so
abbrev pub LeavesTrunk : (Packed → Type 0) → (Packed → Recorded → Type 0) → ℕ → ℕ → Option (List ℕ) → ℕ
    → Option (List ℕ) → Option (List ℕ) → Type 0
LeavesTrunk HasNoPart Answers n limit has size before after =
    (after ≡ before)
    ⊎ ((text : List ℕ) × (loaded : Contents) × (left : Left) × AreFirstBytes has size text
    × LoadGives (empty_table n) text (Ok (loaded, left)) × ((t : Packed) → IsOpenBelow limit loaded t → HasNoPart t)
    × LeavesGrown Answers limit loaded (length text) left before after)

-- the line that says how many records the trunk has, and how many parts there are
abbrev pub split_text : Tally → List ℕ
split_text tally = codes "trunk " ++ decimal (tally.nodes - tally.open_count) ++ codes " parts "
    ++ decimal tally.open_count ++ 10 ∷ []
