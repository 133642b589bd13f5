-- The answer to a line.
use Rattle.std.specs.Prelude.{◌≡◌, ℕ, List, [], ◌++◌, Option, Some, None, IfSome, Result, Ok, Err, codes, decimal}
use Rattle.machine_text.specs.Terms.{entry_of, Packed, text_of, table_of}
use Rattle.machine_text.specs.Text as text
use Rattle.machine_text.specs.declared.grammar.TextFault.{TextFault}
use Rattle.kind_evidence.specs.declared.verdicts.Verdict.{Verdict}
use Rattle.kind_evidence.specs.declared.verdicts.Verdict.TheVariants.{Halts, Never}
use Rattle.kind_evidence.specs.declared.verdicts.Refused.{Refused as Refusal}
use Rattle.cert.specs.Terms.{Recorded, score_by, shown_by, IsCertified, IsRefusedBy, record_of, claim_text, record_text}
use Rattle.kind_evidence.specs.Terms.{IsTrueOf}
use Rattle.kind_evidence.specs.Verdict as verdict
use Rattle.cert.specs.declared.judgement.Judged.{Judged}
use Rattle.cert.specs.Grammar as record_fault
use Rattle.cert.specs.declared.record.RecordFault.{RecordFault}
use Rattle.cert.specs.declared.record.RecordFault.TheVariants.{BadTable, BadKind, BadNumber, BadList, TooLong}
use Rattle.cmd_options.specs.declared.ended.Outcome.{Outcome}
use Rattle.cmd_options.specs.declared.ended.Outcome.TheVariants.{Accepted, Refused, BadLine, NoMemory, Failed}
use Rattle.cmd_lines.specs.declared.decide.TableText.{TableText}
use Rattle.cmd_lines.specs.declared.decide.TableText.TheVariants.{AsItCame, Standard}

-- The answer to a line: what is printed for what its record's certificate shows, or for why it is refused.

-- what is said of a table, behind it
abbrev pub verdict_text : Option Verdict → List ℕ
verdict_text (Some (Halts k s)) = codes " halts " ++ decimal k
verdict_text (Some Never) = codes " never"
verdict_text None = codes " undecided"

-- and behind that the ones, where the record has them
abbrev pub ones_text : Option ℕ → List ℕ
ones_text None = []
ones_text (Some s) = codes " ones " ++ decimal s

abbrev pub refusal_text : ℕ → List ℕ
refusal_text n = codes "refused " ++ decimal n

-- a table's fault behind the record's: its number, and its place where it has one
abbrev pub place_text : Option ℕ → List ℕ
place_text None = []
place_text (Some i) = codes " " ++ decimal i

abbrev pub text_fault_text : TextFault → List ℕ
text_fault_text f = codes " " ++ decimal (text.text_fault_number f) ++ place_text (text.place_of f)

abbrev pub inner_text : RecordFault → List ℕ
inner_text (BadTable f) = text_fault_text f
inner_text BadKind = []
inner_text BadNumber = []
inner_text BadList = []
inner_text TooLong = []

abbrev pub fault_text : RecordFault → List ℕ
fault_text f = refusal_text (record_fault.record_fault_number f) ++ inner_text f

-- the answer to a record: accepted, with its table and what its claim shows, which is true of the table, where the
-- claim is certified; or why it is refused
abbrev pub AnswersRecord : Recorded → Outcome → List ℕ → Type 0
AnswersRecord r Accepted answer =
    IsCertified r × IfSome (shown_by r.claim r.table) (λ v. IsTrueOf v (entry_of r.table))
    × (answer ≡ text_of r.table ++ verdict_text (shown_by r.claim r.table) ++ ones_text (score_by r.claim))
AnswersRecord r Refused answer = (why : Refusal) × (number : ℕ) × IsRefusedBy why r
    × (verdict.refused_number why ≡ Some number) × (answer ≡ refusal_text number)
AnswersRecord r BadLine answer = ⊥
AnswersRecord r NoMemory answer = ⊥
AnswersRecord r Failed answer = ⊥

-- whether it is accepted, by what its certificate shows, if it stands
abbrev pub outcome_shown : Option Judged → Outcome
outcome_shown (Some judged) = Accepted
outcome_shown None = Refused

-- what is read of a line, which is none where it was too long
abbrev pub read_line : Option (List ℕ) → Result Recorded RecordFault
read_line None = Err TooLong
read_line (Some line) = record_of line

-- an answer to what was read
abbrev pub Answers : Result Recorded RecordFault → Outcome → List ℕ → Type 0
Answers (Ok r) o answer = AnswersRecord r o answer
Answers (Err f) o answer = (o ≡ Refused) × (answer ≡ fault_text f)

-- what `bb check` says to a line
abbrev pub SaysOfRecord : Option (List ℕ) → Outcome → List ℕ → Type 0
SaysOfRecord line o answer = Answers (read_line line) o answer

-- What is printed for a line with a table: a record of it that is certified, or the fault of its text.

-- how a record is printed of a table that came so: its text, or the table as it came, and behind it what follows the
-- table in that text
abbrev pub printed : TableText → List ℕ → Recorded → List ℕ
printed Standard came r = record_text r
printed AsItCame came r = came ++ codes " " ++ claim_text r.claim

-- a record of the table that the decider answers, whose certificate stands within the limits, or claims nothing
pub record DecidesTable (Answers : Packed → Recorded → Type 0) (text : TableText) (came : List ℕ) (t : Packed)
    (o : Outcome) (answer : List ℕ) : Type 0 where
  pub decided : Recorded
  pub asked : Answers t decided
  pub table : decided.table ≡ t
  pub certified : IsCertified decided
  pub accepted : o ≡ Accepted
  pub is : answer ≡ printed text came decided

abbrev pub table_read : Result Packed TextFault → Result Packed RecordFault
table_read (Ok t) = Ok t
table_read (Err f) = Err (BadTable f)

-- what is read of a line, which is none where it was too long
abbrev pub read_line_table : Option (List ℕ) → Result Packed RecordFault
read_line_table None = Err TooLong
read_line_table (Some line) = table_read (table_of line)

-- what is printed where this is read of a text that came, by what the decider answers
abbrev pub DecidesCame : (Packed → Recorded → Type 0) → TableText → List ℕ → Result Packed RecordFault → Outcome
    → List ℕ → Type 0
DecidesCame Answers text came (Ok t) o answer = DecidesTable Answers text came t o answer
DecidesCame Answers text came (Err f) o answer = (o ≡ Refused) × (answer ≡ fault_text f)

-- what is printed for a line, which is none where it was too long
abbrev pub Decides : (Packed → Recorded → Type 0) → TableText → Option (List ℕ) → Outcome → List ℕ → Type 0
Decides Answers text None o answer = (o ≡ Refused) × (answer ≡ fault_text TooLong)
Decides Answers text (Some line) o answer = DecidesCame Answers text line (table_read (table_of line)) o answer

-- what `bb decide` says to a line, where so the decider answers as it stands then
abbrev pub SaysOfTable : {D : Type 0} → (D → Packed → Recorded → Type 0) → TableText → Option (List ℕ) → Outcome
    → List ℕ → Type 0
SaysOfTable {D} Answers text line o answer = (decider : D) × Decides (Answers decider) text line o answer
