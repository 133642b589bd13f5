-- The report of a board, to the byte, and of one to which a tree is settled.
use Rattle.std.specs.Prelude.{◌≡◌, ℕ, List, [], ◌∷◌, ◌++◌, Option, Some, None, codes, decimal, flat_map, ◌⊎◌, Result, Ok, Err}
use Rattle.std.specs.Vec.Iter.{into_iter_items}
use Rattle.std.specs.Io.KnownBytes.{Appends}
use Rattle.machine_text.specs.Terms.{Packed, empty_table, text_of}
use Rattle.cert.specs.Terms.{Recorded}
use Rattle.ledger.specs.Terms.{IsHoldout, IsSigma, Contents, IsBoard, mark_in, AreAll, IsStatus, IsTally, IsChampion, IsOnesChampion, IsTreeTally, IsTreeChampion, IsTreeOnesChampion, IsGreatestCount, IsGreatestOnes}
use Rattle.ledger.specs.declared.counts.Tally.{Tally}
use Rattle.ledger.specs.declared.faults.Status.{Status}
use Rattle.ledger.specs.declared.faults.Status.TheVariants.{Working, Holdouts, Complete}
use Rattle.cmd_ledgers.specs.declared.board_report.Told.{Told}
use Rattle.law_turing.specs.Terms.{IsRado}
use Rattle.cmd_ledgers.specs.declared.board_report.LineReport.{LineReport}
use Rattle.law_tree.specs.Terms.{IsComplete}
use Rattle.ledger.specs.declared.loading.Left.{Left}
use Rattle.ledger.specs.declared.loading.Left.TheVariants.{Nothing}
use Rattle.cmd_options.specs.declared.ended.Outcome.{Outcome}
use Rattle.cmd_options.specs.declared.ended.Outcome.TheVariants.{Accepted, Refused, BadLine, NoMemory, Failed}
use Rattle.cmd_options.specs.Terms.{PrintsNothing}
use Rattle.cmd_options.specs.declared.ended.Ended.{Ended}

-- The report of a board, to the byte: lines in a fixed order, of a name, a space, a value and a newline.

-- a line of a name and a value
abbrev pub line_of : List ℕ → List ℕ → List ℕ
line_of name value = name ++ codes " " ++ value ++ 10 ∷ []

abbrev pub status_name : Status → List ℕ
status_name (Working count) = codes "working"
status_name (Holdouts count) = codes "holdouts"
status_name (Complete best ones) = codes "complete"

-- a greatest number, where there is one
abbrev pub greatest_text : Option ℕ → List ℕ
greatest_text None = codes "none"
greatest_text (Some k) = decimal k

-- a line for each table
abbrev pub table_lines : List ℕ → List Packed → List ℕ
table_lines name tables = flat_map (λ t. line_of name (text_of t)) tables

abbrev pub verdicts_text : Tally → List ℕ
verdicts_text tally =
    line_of (codes "nodes") (decimal tally.nodes)
    ++ line_of (codes "halting") (decimal tally.halting)
    ++ line_of (codes "never") (decimal tally.never)

abbrev pub counts_text : Tally → List ℕ
counts_text tally =
    verdicts_text tally
    ++ line_of (codes "holdouts") (decimal tally.holdouts)
    ++ line_of (codes "open") (decimal tally.open_count)
    ++ line_of (codes "best") (greatest_text tally.best)

-- the lines before those of the tables
abbrev pub head_text : Packed → List ℕ → Tally → List ℕ
head_text root word tally =
    line_of (codes "root") (text_of root)
    ++ line_of (codes "status") word
    ++ counts_text tally

-- how a report is worded: of a root, the word for how its board stands, its tallies, its champions by steps and by
-- scores, and its holdouts
abbrev pub Wording : Type 0
Wording = Packed → List ℕ → Tally → List Packed → List Packed → List Packed → List ℕ

-- behind the champions stand the greatest score and the champions by scores, and then the holdouts
abbrev pub report_text : Packed → List ℕ → Tally → List Packed → List Packed → List Packed → List ℕ
report_text root word tally champions ones_champions holdouts =
    head_text root word tally
    ++ table_lines (codes "champion") champions
    ++ line_of (codes "ones") (greatest_text tally.ones)
    ++ table_lines (codes "ones_champion") ones_champions
    ++ table_lines (codes "holdout") holdouts

-- the report of a root and the records held from it: how the board stands, its tallies, its champions by steps and by
-- scores, and its holdouts, each in the order of their texts
pub record IsReportIn (wording : Wording) (root : Packed) (rs : List Recorded) (text : List ℕ) : Type 0 where
  pub status : Status
  pub tally : Tally
  pub champions : List Packed
  pub ones_champions : List Packed
  pub holdouts : List Packed
  pub stands : IsStatus root rs status
  pub counted : IsTally root rs tally
  pub are_champions : AreAll (IsChampion rs tally.best) champions
  pub are_ones_champions : AreAll (IsOnesChampion rs tally.ones) ones_champions
  pub are_holdouts : AreAll (IsHoldout rs) holdouts
  pub is : text ≡ wording root (status_name status) tally champions ones_champions holdouts

abbrev pub IsReport : Packed → List Recorded → List ℕ → Type 0
IsReport root rs text = IsReportIn report_text root rs text

-- All that a report tells of records that are held from a root, as it is gathered before it is printed.
pub record IsToldOf (root : Packed) (rs : List Recorded) (told : Told) : Type 0 where
  pub root_is : told.root ≡ root
  pub stands : IsStatus root rs told.status
  pub counted : IsTally root rs told.tally
  pub are_champions : AreAll (IsChampion rs told.tally.best) (into_iter_items told.champions)
  pub are_ones_champions : AreAll (IsOnesChampion rs told.tally.ones) (into_iter_items told.ones_champions)
  pub are_holdouts : AreAll (IsHoldout rs) (into_iter_items told.holdouts)

-- The report of a whole tree: a complete board's, whatever way it came about.

-- of the tree of a root: how many tables it has, how many halt and how many never do, the greatest number of steps and
-- the tables that halt after so many, the greatest score and the tables that halt with it, both in the order of their
-- texts; nothing is open, and there is no holdout
pub record IsTreeReportIn (wording : Wording) (root : Packed) (text : List ℕ) : Type 0 where
  pub tally : Tally
  pub champions : List Packed
  pub ones_champions : List Packed
  pub counted : IsTreeTally root tally
  pub are_champions : AreAll (IsTreeChampion root tally.best) champions
  pub are_ones_champions : AreAll (IsTreeOnesChampion root tally.ones) ones_champions
  pub is : text ≡ wording root (codes "complete") tally champions ones_champions []

abbrev pub IsTreeReport : Packed → List ℕ → Type 0
IsTreeReport root text = IsTreeReportIn report_text root text

-- of the tree of the empty table of n states: its best is S(n), and its ones are Σ(n)
pub record TellsRadoIn (wording : Wording) (n : ℕ) (text : List ℕ) : Type 0 where
  pub s : ℕ
  pub sigma : ℕ
  pub is_rado : IsRado n s
  pub is_sigma : IsSigma n sigma
  pub tally : Tally
  pub champions : List Packed
  pub ones_champions : List Packed
  pub best : tally.best ≡ Some s
  pub ones : tally.ones ≡ Some sigma
  pub is : text ≡ wording (empty_table n) (codes "complete") tally champions ones_champions []

abbrev pub TellsRado : ℕ → List ℕ → Type 0
TellsRado n text = TellsRadoIn report_text n text

-- Lines that are made, and bytes that go to a writer by way of a piece in memory, which is written whenever it is full.

-- the bytes of a report that is made
abbrev pub bytes_of_lines : LineReport → List ℕ
bytes_of_lines made =
    made.head.items
    ++ table_lines (codes "champion") (into_iter_items made.champions)
    ++ made.ones.items
    ++ table_lines (codes "ones_champion") (into_iter_items made.ones_champions)
    ++ table_lines (codes "holdout") (into_iter_items made.holdouts)
    ++ made.tail.items

-- a text has come behind the piece: what was written since and the new piece are together the old piece and the text
pub record Passes (held : Option (List ℕ)) (piece : List ℕ) (new_held : Option (List ℕ))
    (new_piece text : List ℕ) : Type 0 where
  pub written : List ℕ
  pub appended : Appends held new_held written
  pub is : written ++ new_piece ≡ piece ++ text

-- What is printed of the board to which a tree is settled, by how the command ends.

-- what a form of report prints of a root and its records, and of what wasn't kept of their ledger
abbrev pub FormText : Type 1
FormText = Packed → List Recorded → Left → List ℕ → Type 0

-- what was written is the report, in a form, of a board of the tree of a root, and its records are kept
pub record ReportsTree (IsText : FormText) (root : Packed) (IsKept : Contents → Type 0)
    (held new_held : Option (List ℕ)) (board : Contents) : Type 0 where
  pub is_board : IsBoard board
  pub is_root : board.root ≡ root
  pub written : List ℕ
  pub is_text : IsText board.root board.records Nothing written
  pub appends : Appends held new_held written
  pub kept : IsKept board

-- the board, of the tree of n states, is complete: its best, the greatest number of steps that it has, is S(n), and its ones, the greatest
-- score, are Σ(n) (Radó 1962)
pub record ReportsComplete (IsText : FormText) (n : ℕ) (IsKept : Contents → Type 0)
    (held new_held : Option (List ℕ)) : Type 0 where
  pub board : Contents
  pub reports : ReportsTree IsText (empty_table n) IsKept held new_held board
  pub complete : IsComplete board.root (mark_in board.records)
  pub best : ℕ
  pub is_best : IsGreatestCount board.records (Some best)
  pub is_rado : IsRado n best
  pub ones : ℕ
  pub are_ones : IsGreatestOnes board.records (Some ones)
  pub is_sigma : IsSigma n ones

-- or it isn't
pub record ReportsIncomplete (IsText : FormText) (root : Packed) (IsKept : Contents → Type 0)
    (held new_held : Option (List ℕ)) : Type 0 where
  pub board : Contents
  pub reports : ReportsTree IsText root IsKept held new_held board
  pub incomplete : IsComplete board.root (mark_in board.records) → ⊥

-- by how a command ends: with all accepted, the first is so of what was written, with a refusal the second. What ends it
-- early ends it before anything is written, unless a stream fails
abbrev pub EndsByReport : Type 0 → Type 0 → Option (List ℕ) → Option (List ℕ) → Result Outcome Ended → Type 0
EndsByReport IfAccepted IfRefused held new_held (Ok Accepted) = IfAccepted
EndsByReport IfAccepted IfRefused held new_held (Ok Refused) = IfRefused
EndsByReport IfAccepted IfRefused held new_held (Ok BadLine) = ⊥
EndsByReport IfAccepted IfRefused held new_held (Ok NoMemory) = ⊥
EndsByReport IfAccepted IfRefused held new_held (Ok Failed) = ⊥
EndsByReport IfAccepted IfRefused held new_held (Err e) = PrintsNothing e held new_held

-- by the outcome: where all is accepted, the first; where it is refused, the second, or nothing was written; where memory is
-- refused, nothing. A failure doesn't tell what was written
abbrev pub TellsByReport : Type 0 → Type 0 → Option (List ℕ) → Option (List ℕ) → Outcome → Type 0
TellsByReport IfAccepted IfRefused held new_held Accepted = IfAccepted
TellsByReport IfAccepted IfRefused held new_held Refused = IfRefused ⊎ (new_held ≡ held)
TellsByReport IfAccepted IfRefused held new_held BadLine = ⊥
TellsByReport IfAccepted IfRefused held new_held NoMemory = new_held ≡ held
TellsByReport IfAccepted IfRefused held new_held Failed = Unit {0}

-- of the tree of n states: with all accepted, the report of a complete board is written; with a refusal, that of one that
-- isn't complete
abbrev pub SettlesTree : FormText → ℕ → (Contents → Type 0) → Option (List ℕ) → Option (List ℕ) → Result Outcome Ended
    → Type 0
SettlesTree IsText n IsKept held new_held ended = EndsByReport (ReportsComplete IsText n IsKept held new_held)
    (ReportsIncomplete IsText (empty_table n) IsKept held new_held) held new_held ended

abbrev pub TellsTree : FormText → ℕ → (Contents → Type 0) → Option (List ℕ) → Option (List ℕ) → Outcome → Type 0
TellsTree IsText n IsKept held new_held outcome = TellsByReport (ReportsComplete IsText n IsKept held new_held)
    (ReportsIncomplete IsText (empty_table n) IsKept held new_held) held new_held outcome
