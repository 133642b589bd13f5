-- The text of a ledger in each version: a header with the root of its tree, then records, each on a line.
use Rattle.std.specs.Prelude.{ℕ, Bool, true, not, is_some, if◌then◌else◌, List, codes, Option, Some, None, Result, Ok, Err, ◌≡◌, ◌≢◌, ◌+◌, ◌⊎◌, [], ◌∷◌, ◌++◌, map, length}
use Rattle.kind_evidence.specs.declared.verdicts.Ending.{Ending}
use Rattle.kind_evidence.specs.declared.verdicts.Ending.TheVariants.{Halts, Never}
use Rattle.cert.specs.Terms.{Recorded, ending_by, score_by, record_of, record_text, without_score, with_score}
use Rattle.cert.specs.declared.record.RecordFault.{RecordFault}
use Rattle.cert.specs.declared.record.RecordFault.TheVariants.{BadKind}
use Rattle.ledger.specs.declared.header.Format.{Format}
use Rattle.ledger.specs.declared.header.Format.TheVariants.{One, Two}
use Rattle.machine_text.specs.Terms.{Packed, entry_of, table_of, text_of}
use Rattle.law_tree.specs.Terms.{InOrder}
use Rattle.ledger.specs.Records.{Contents, IsFit, Resolves, resolved}
use Rattle.text.specs.Terms.{joined, HasNoNewline, BeginsWithLine}
use Rattle.ledger.specs.Offers.{KeepsTree, OfferGives}
use Rattle.ledger.specs.declared.faults.Taken.{Taken}
use Rattle.ledger.specs.declared.faults.Taken.TheVariants.{New, Known, Settled}
use Rattle.ledger.specs.declared.faults.OfferFault.{OfferFault}
use Rattle.ledger.specs.declared.faults.OfferFault.TheVariants.{NoMemory as OfferNoMemory}
use Rattle.ledger.specs.declared.loading.Left.{Left}
use Rattle.ledger.specs.declared.loading.Left.TheVariants.{Nothing, From}
use Rattle.ledger.specs.declared.loading.Unkept.{Unkept}
use Rattle.ledger.specs.declared.loading.Unkept.TheVariants.{Torn, Unread, Unfit, Repeated}
use Rattle.ledger.specs.declared.faults.LoadFault.{LoadFault}
use Rattle.ledger.specs.declared.faults.LoadFault.TheVariants.{BadHeader, WrongRoot, NoMemory}

-- The versions of a ledger's text. In version 1 a record that says that its table halts stands without its score, in
-- version 2 with it.
abbrev pub format_number : Format → ℕ
format_number One = 1
format_number Two = 2

-- what a header begins with; the text of the root follows
abbrev pub header_words : Format → List ℕ
header_words One = codes "bb-ledger 1 "
header_words Two = codes "bb-ledger 2 "

-- whether a claim may stand on a line, by how the run ends by it and the score that it has
abbrev pub may_stand : Format → Option Ending → Option ℕ → Bool
may_stand One ends score = not (is_some score)
may_stand Two (Some (Halts k)) score = is_some score
may_stand Two (Some Never) score = true
may_stand Two None score = true

abbrev pub standing_record : Format → Result Recorded RecordFault → Result Recorded RecordFault
standing_record f (Ok r) = if may_stand f (ending_by r.claim) (score_by r.claim) then Ok r else Err BadKind
standing_record f (Err fault) = Err fault

-- what a line of a ledger is read as: a record that may stand there
unfoldable pub ledger_record : Format → List ℕ → Result Recorded RecordFault
ledger_record f line = standing_record f (record_of line)

-- a record that is held, as it stands on a line; and that line
abbrev pub as_written : Format → Recorded → Recorded
as_written One r = without_score r
as_written Two r = r

abbrev pub ledger_line : Format → Recorded → List ℕ
ledger_line format r = record_text (as_written format r)

-- The text of a ledger: a header with its version and the root of its tree, then records, each on a line. A line ends
-- with a newline, the byte 10. A text is read as the records of its lines, up to the first that can't be taken.

-- a beginning of these words, or more than them
abbrev pub BeginsBy : List ℕ → List ℕ → Type 0
BeginsBy words text = ((more : List ℕ) × (words ≡ text ++ more)) ⊎ ((more : List ℕ) × (text ≡ words ++ more))

-- the same of what a header of either version begins with
abbrev pub BeginsAsHeader : List ℕ → Type 0
BeginsAsHeader text = (format : Format) × BeginsBy (header_words format) text

-- torn off within its first line, which begins as a header does
pub record IsTornHeader (text : List ℕ) : Type 0 where
  pub no_newline : HasNoNewline text
  pub begun : BeginsAsHeader text

-- the first line is the header of a root, in a version
pub record HasHeader (text : List ℕ) (root : Packed) (rest : List ℕ) : Type 0 where
  pub format : Format
  pub name : List ℕ
  pub line : BeginsWithLine text (header_words format ++ name) rest
  pub reads : table_of name ≡ Ok root

-- neither torn off within a header, nor with one
pub record HasNoHeader (text : List ℕ) : Type 0 where
  pub whole : IsTornHeader text → ⊥
  pub none : (root : Packed) (rest : List ℕ) → HasHeader text root rest → ⊥

-- a record is taken, which makes the records old into the records new: it is fit and comes last, or it resolves a
-- holdout and stands in its place. It is held with its score, whether it came with it or not
abbrev pub IsTaken : Packed → List Recorded → Recorded → List Recorded → Type 0
IsTaken root old r new = (IsFit root old r × (new ≡ old ++ (with_score r ∷ [])))
    ⊎ (Resolves old r × (new ≡ resolved old (with_score r)))

-- lines that are each read, and taken in turn
abbrev pub AreTaken : Format → Packed → List Recorded → List (List ℕ) → List Recorded → Type 0
AreTaken format root old [] new = new ≡ old
AreTaken format root old (line ∷ lines) new =
    (r : Recorded) × (mid : List Recorded) × HasNoNewline line × (ledger_record format line ≡ Ok r)
    × IsTaken root old r mid × AreTaken format root mid lines new

-- why a line isn't kept behind the records rs
abbrev pub IsUnkeptLine : Format → Packed → List Recorded → List ℕ → Unkept → Type 0
IsUnkeptLine format root rs line Torn = ⊥
IsUnkeptLine format root rs line (Unread f) = ledger_record format line ≡ Err f
IsUnkeptLine format root rs line (Unfit f) = (f ≢ OfferNoMemory)
    × ((r : Recorded) × (ledger_record format line ≡ Ok r) × OfferGives root rs r (Err f) rs)
IsUnkeptLine format root rs line Repeated = (r : Recorded) × (ledger_record format line ≡ Ok r)
    × OfferGives root rs r (Ok Known) rs

-- what becomes of the records where a line is offered: it is taken, or there is a reason why not
abbrev pub LineGives : Format → Packed → List Recorded → List ℕ → Option Unkept → List Recorded → Type 0
LineGives format root old line None new = (r : Recorded) × (ledger_record format line ≡ Ok r) × IsTaken root old r new
LineGives format root old line (Some why) new = IsUnkeptLine format root old line why × (new ≡ old)

abbrev pub BeginsUnkept : Format → Packed → List Recorded → List ℕ → Unkept → Type 0
BeginsUnkept format root rs text why = (line : List ℕ) × (rest : List ℕ) × BeginsWithLine text line rest
    × IsUnkeptLine format root rs line why

-- why nothing of a text is kept behind the records rs: it is torn off within its first line, or that isn't kept
abbrev pub IsUnkept : Format → Packed → List Recorded → List ℕ → Unkept → Type 0
IsUnkept format root rs text Torn = HasNoNewline text × (text ≢ [])
IsUnkept format root rs text (Unread f) = BeginsUnkept format root rs text (Unread f)
IsUnkept format root rs text (Unfit f) = BeginsUnkept format root rs text (Unfit f)
IsUnkept format root rs text Repeated = BeginsUnkept format root rs text Repeated

-- what is left of a text of n bytes, whose rest begins with the line of this number
abbrev pub IsLeft : Format → Packed → List Recorded → ℕ → ℕ → List ℕ → Left → Type 0
IsLeft format root rs n number rest Nothing = rest ≡ []
IsLeft format root rs n number rest (From line kept why) = (line ≡ number) × (kept + length rest ≡ n)
    × IsUnkept format root rs rest why

-- what is kept of the body of a text of n bytes in a version: lines that are taken in turn, from the records old to the
-- records new, up to a rest that isn't kept
pub record Keeps (format : Format) (root : Packed) (n : ℕ) (body : List ℕ) (old new : List Recorded)
    (left : Left) : Type 0 where
  pub lines : List (List ℕ)
  pub rest : List ℕ
  pub is : body ≡ joined lines ++ rest
  pub taken : AreTaken format root old lines new
  pub ends : IsLeft format root new n (length lines + 2) rest left

-- the text is read as the records rs: they are kept of what stands behind its header, whose version is that of all lines
pub record ReadsAs (root : Packed) (text : List ℕ) (rs : List Recorded) (left : Left) : Type 0 where
  pub body : List ℕ
  pub header : HasHeader text root body
  pub keeps : Keeps header.format root (length text) body [] rs left

-- it is so read in this version
pub record ReadsIn (format : Format) (root : Packed) (text : List ℕ) (rs : List Recorded) (left : Left) : Type 0 where
  pub reads : ReadsAs root text rs left
  pub version : reads.header.format ≡ format

-- the text is the ledger of a board, which is in step with it: it reads as the board, in its version, and all of it is
-- kept
abbrev pub IsLedgerOf : Contents → List ℕ → Type 0
IsLedgerOf b text = ReadsIn b.format b.root text b.records Nothing

-- what is left of a text that is torn off within its header
abbrev pub IsTornLeft : List ℕ → Left → Type 0
IsTornLeft text Nothing = text ≡ []
IsTornLeft text (From line kept why) = (text ≢ []) × (line ≡ 1) × (kept ≡ 0) × (why ≡ Torn)

-- a text that is torn off within its header is read as no record
pub record ReadsAsNone (text : List ℕ) (rs : List Recorded) (left : Left) : Type 0 where
  pub torn : IsTornHeader text
  pub none : rs ≡ []
  pub ends : IsTornLeft text left

-- what was begun of its header counts for nothing: its board has the version of a new one
pub record ReadsAsNew (b : Contents) (text : List ℕ) (left : Left) : Type 0 where
  pub reads : ReadsAsNone text b.records left
  pub version : b.format ≡ Two

-- what a text is loaded as, where the root is asked for
abbrev pub LoadGives : Packed → List ℕ → Result (Contents × Left) LoadFault → Type 0
LoadGives root text (Ok loaded) =
    (loaded.0.root ≡ root) × (ReadsAsNew loaded.0 text loaded.1
    ⊎ ReadsIn loaded.0.format root text loaded.0.records loaded.1)
LoadGives root text (Err BadHeader) = HasNoHeader text
LoadGives root text (Err WrongRoot) = (other : Packed) × (rest : List ℕ) × HasHeader text other rest × (other ≢ root)
LoadGives root text (Err NoMemory) = IsTornHeader text ⊎ ((rest : List ℕ) × HasHeader text root rest)

-- which root a text names
abbrev pub PeekGives : List ℕ → Result (Option Packed) LoadFault → Type 0
PeekGives text (Ok None) = IsTornHeader text
PeekGives text (Ok (Some root)) = ((rest : List ℕ) × HasHeader text root rest) × ((u : ℕ) × InOrder u (entry_of root))
PeekGives text (Err BadHeader) = HasNoHeader text
PeekGives text (Err WrongRoot) =
    (root : Packed) × (rest : List ℕ) × HasHeader text root rest × (((u : ℕ) × InOrder u (entry_of root)) → ⊥)
PeekGives text (Err NoMemory) = ⊥

-- the text of a ledger, which is written in version 2
unfoldable pub ledger_text : Packed → List Recorded → List ℕ
ledger_text root rs = header_words Two ++ text_of root ++ (10 ∷ joined (map (ledger_line Two) rs))

-- what a ledger gains where a record is offered to its board: where that is taken, the line of the record as it is held
abbrev pub gained_line : Format → Recorded → Result Taken OfferFault → List ℕ
gained_line format r (Ok New) = ledger_line format (with_score r) ++ (10 ∷ [])
gained_line format r (Ok Settled) = ledger_line format (with_score r) ++ (10 ∷ [])
gained_line format r (Ok Known) = []
gained_line format r (Err fault) = []

-- an offer together with the line that a ledger gains by it: what it does to the records, the line behind a text, and
-- what stays
pub record OffersLine (r : Recorded) (result : Result Taken OfferFault) (old : Contents) (text : List ℕ)
    (new : Contents) (new_text : List ℕ) : Type 0 where
  pub gives : OfferGives old.root old.records r result new.records
  pub line : new_text ≡ text ++ gained_line old.format r result
  pub kept : KeepsTree old new
