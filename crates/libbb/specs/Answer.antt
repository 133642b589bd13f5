-- What is said of a record's text, in plain numbers. The outcomes are 0 where its table halts, 1 where it never does, 2
-- where nothing is claimed, 3 where it is refused, 4 where memory is.
use Rattle.std.specs.Prelude.{◌≡◌, ℕ, ◌⊎◌, [], ◌∷◌, Option, Some, None, IfSome, Result, Ok, Err}
use Rattle.machine_text.specs.Terms.{entry_of, text_fault_number, place_of}
use Rattle.machine_text.specs.declared.grammar.TextFault.{TextFault}
use Rattle.kind_evidence.specs.declared.verdicts.Verdict.{Verdict}
use Rattle.kind_evidence.specs.declared.verdicts.Verdict.TheVariants.{Halts, Never}
use Rattle.kind_evidence.specs.declared.verdicts.Refused.{Refused}
use Rattle.kind_evidence.specs.Terms.{IsTrueOf, refused_number}
use Rattle.cert.specs.Terms.{Recorded, TakesMemory, score_by, shown_by, IsCertified, IsRefusedBy, record_fault_number, kind_text}
use Rattle.cert.specs.declared.record.RecordFault.{RecordFault}
use Rattle.cert.specs.declared.record.RecordFault.TheVariants.{BadTable, BadKind, BadNumber, BadList, TooLong}
use Rattle.libbb.specs.declared.answer.Answer.{Answer}

abbrev pub flag : Option ℕ → ℕ
flag None = 0
flag (Some n) = 1

abbrev pub or_zero : Option ℕ → ℕ
or_zero None = 0
or_zero (Some n) = n

-- an outcome alone, of a record of this letter
abbrev pub outcome_alone : ℕ → ℕ → Answer
outcome_alone outcome kind = record {
  steps = 0;
  ones = 0;
  place = 0;
  outcome = outcome;
  code = 0;
  table_code = 0;
  has_place = 0;
  has_ones = 0;
  kind = kind;
}

-- what a certificate that stands shows, by whether the record says the ones
abbrev pub shown_answer : Option Verdict → Option ℕ → ℕ → Answer
shown_answer (Some (Halts k s)) score kind = record {
  steps = k;
  ones = s;
  place = 0;
  outcome = 0;
  code = 0;
  table_code = 0;
  has_place = 0;
  has_ones = flag score;
  kind = kind;
}
shown_answer (Some Never) score kind = outcome_alone 1 kind
shown_answer None score kind = outcome_alone 2 kind

-- a refusal of this number
abbrev pub refused_answer : ℕ → ℕ → Answer
refused_answer code kind = record {
  steps = 0;
  ones = 0;
  place = 0;
  outcome = 3;
  code = code;
  table_code = 0;
  has_place = 0;
  has_ones = 0;
  kind = kind;
}

-- one of a text whose table has this fault
abbrev pub unread_table : ℕ → TextFault → Answer
unread_table code f = record {
  steps = 0;
  ones = 0;
  place = or_zero (place_of f);
  outcome = 3;
  code = code;
  table_code = text_fault_number f;
  has_place = flag (place_of f);
  has_ones = 0;
  kind = 0;
}

-- one of a text that is no record
abbrev pub unread : RecordFault → Answer
unread (BadTable f) = unread_table (record_fault_number (BadTable f)) f
unread BadKind = refused_answer (record_fault_number BadKind) 0
unread BadNumber = refused_answer (record_fault_number BadNumber) 0
unread BadList = refused_answer (record_fault_number BadList) 0
unread TooLong = refused_answer (record_fault_number TooLong) 0

-- the record is certified, so what it shows is true of its table, and is said
pub record AnswersShown (r : Recorded) (a : Answer) : Type 0 where
  pub certified : IsCertified r
  pub is_true : IfSome (shown_by r.claim r.table) (λ v. IsTrueOf v (entry_of r.table))
  pub is : a ≡ shown_answer (shown_by r.claim r.table) (score_by r.claim) a.kind

-- the certificate is refused, for this reason
pub record AnswersRefused (r : Recorded) (a : Answer) : Type 0 where
  pub why : Refused
  pub refuses : IsRefusedBy why r
  pub number : refused_number why ≡ Some a.code
  pub is : a ≡ refused_answer a.code a.kind

-- the check of such a certificate takes memory, and was refused it
pub record AnswersNoMemory (r : Recorded) (a : Answer) : Type 0 where
  pub takes : TakesMemory r.claim r.table
  pub is : a ≡ outcome_alone 4 a.kind

-- an answer to a record, which has its letter
abbrev pub TellsOfRecord : Recorded → Answer → Type 0
TellsOfRecord r a = (kind_text r.claim ≡ a.kind ∷ []) × (AnswersShown r a ⊎ AnswersRefused r a ⊎ AnswersNoMemory r a)

-- an answer to what was read
abbrev pub TellsOfRead : Result Recorded RecordFault → Answer → Type 0
TellsOfRead (Ok r) a = TellsOfRecord r a
TellsOfRead (Err f) a = a ≡ unread f
