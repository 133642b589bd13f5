-- The answers to a line as JSON, and what is said to the lines of a stream, each by its number.
use Rattle.std.specs.Prelude.{ℕ, ◌/◌, ◌%◌, nat_lt, if◌then◌else◌, List, [], ◌∷◌, Option, Some, None, chars, encode_utf8_all, flat_map, ◌≡◌, IfSome, Result, Ok, Err, string_bytes, ⊤, codes, ◌+◌, ◌-◌, ◌^◌, ◌++◌}
use Rattle.std.specs.Char.{digit_char}
use Rattle.std.specs.Io.KnownBytes.{Consumes, Appends, IsAtEnd}
use Rattle.serde_json.specs.Data.{Data, null, string, object, member, no_members}
use Rattle.machine_text.specs.Terms.{entry_of, Packed, text_of}
use Rattle.kind_evidence.specs.Terms.{IsTrueOf, refused_number}
use Rattle.kind_evidence.specs.declared.verdicts.Ending.{Ending}
use Rattle.kind_evidence.specs.declared.verdicts.Refused.{Refused as Refusal}
use Rattle.cert.specs.Terms.{IsCertified, IsRefusedBy, Recorded, ending_by, score_by, shown_by, record_fault_number, record_fault_text, kind_text, record_text}
use Rattle.cert.specs.declared.record.RecordFault.{RecordFault}
use Rattle.cmd_options.specs.declared.ended.Outcome.{Outcome}
use Rattle.cmd_options.specs.declared.ended.Outcome.TheVariants.{Accepted, Refused, BadLine, NoMemory, Failed}
use Rattle.cmd_json.specs.declared.records.Finding.{Finding}
use Rattle.cmd_json.specs.declared.records.Finding.TheVariants.{Shows as FindsThat, Refuses as FindsFault}
use Rattle.serde_json.specs.Written.{compact_text}
use Rattle.text.specs.Terms.{BoundedLine, bounded_line}
use Rattle.kind_evidence.specs.declared.verdicts.Ending.TheVariants.{Halts, Never}
use Rattle.cmd_json.specs.Forms.{count_value}
use Rattle.cmd_lines.specs.Terms.{read_line, read_line_table, AreFirstLines, AreLines, first_fault}

-- Texts of bytes in JSON: each byte is a character, and what is printed is ASCII, with escapes for the others.

-- the text whose characters are these bytes
abbrev pub text_value : List ℕ → Data
text_value bytes = string (encode_utf8_all bytes)

-- words, or null where there are none
abbrev pub words_value : Option (List ℕ) → Data
words_value None = null
words_value (Some words) = text_value words

-- the last hexadecimal digit of a number, and the last four
abbrev pub hex_digit : ℕ → ℕ
hex_digit n = digit_char (n % 16)

abbrev pub hex_digits : ℕ → List ℕ
hex_digits n = hex_digit (n / 4096) ∷ hex_digit (n / 256) ∷ hex_digit (n / 16) ∷ hex_digit n ∷ []

-- a character; one that isn't ASCII as `\u` and its number
abbrev pub ascii_character : ℕ → List ℕ
ascii_character c = if nat_lt c 128 then c ∷ [] else 92 ∷ 117 ∷ hex_digits c

-- a text, character by character
unfoldable pub ascii : List ℕ → List ℕ
ascii text = flat_map ascii_character (chars text)

-- What is found of a line that should be a record, and when that is so.

-- how the table's run ends, nothing where nothing is claimed, and the score that the record has, if it has one; or for
-- which number it is refused, and what that means in words
pub data LineFinding : Type 0 where
  Shows : Option Ending → Option ℕ → LineFinding
  Refuses : ℕ → List ℕ → LineFinding

-- a finding, apart from how its words are kept
abbrev pub found : Finding → LineFinding
found (FindsThat ending ones) = Shows ending ones
found (FindsFault number meaning) = Refuses number (string_bytes meaning)

-- whether the line is accepted
abbrev pub outcome_found : LineFinding → Outcome
outcome_found (Shows ending ones) = Accepted
outcome_found (Refuses number meaning) = Refused

-- what is claimed stands within the limits, and what it says of the table's run is true
abbrev pub IsTrueRecord : Recorded → Type 0
IsTrueRecord r = IsCertified r × IfSome (shown_by r.claim r.table) (λ v. IsTrueOf v (entry_of r.table))

-- what may be found of a record, by whether it is accepted; what its refusal means in words is said by no definition
abbrev pub FindsRecord : Recorded → Outcome → LineFinding → Type 0
FindsRecord r Accepted f = IsTrueRecord r × (f ≡ Shows (ending_by r.claim) (score_by r.claim))
FindsRecord r Refused f = (why : Refusal) × (number : ℕ) × (meaning : List ℕ) × IsRefusedBy why r
    × (refused_number why ≡ Some number) × (f ≡ Refuses number meaning)
FindsRecord r BadLine f = ⊥
FindsRecord r NoMemory f = ⊥
FindsRecord r Failed f = ⊥

-- and of what was read of a line
abbrev pub Finds : Result Recorded RecordFault → Outcome → LineFinding → Type 0
Finds (Ok r) o f = FindsRecord r o f
Finds (Err fault) o f = (o ≡ Refused) × (f ≡ Refuses (record_fault_number fault) (record_fault_text fault))

-- the words for what has been shown are said by no definition; of what is refused there are none
abbrev pub AreWordsFor : LineFinding → Option (List ℕ) → Type 0
AreWordsFor (Shows ending ones) words = ⊤
AreWordsFor (Refuses number meaning) words = words ≡ None

-- The answers to a line as JSON: an object each, its members in the order of their names, with no space in its text.

-- a number, or null where there is none
abbrev pub number_value : Option ℕ → Data
number_value None = null
number_value (Some n) = count_value n

-- the word for how a run ends
abbrev pub ending_name : Option Ending → List ℕ
ending_name (Some (Halts k)) = codes "halts"
ending_name (Some Never) = codes "never"
ending_name None = codes "undecided"

-- the steps of a run that halts
abbrev pub ending_steps : Option Ending → Option ℕ
ending_steps (Some (Halts k)) = Some k
ending_steps (Some Never) = None
ending_steps None = None

-- what is told of what was found
abbrev pub verdict_found : LineFinding → List ℕ
verdict_found (Shows ending ones) = ending_name ending
verdict_found (Refuses number meaning) = codes "refused"

abbrev pub steps_found : LineFinding → Option ℕ
steps_found (Shows ending ones) = ending_steps ending
steps_found (Refuses number meaning) = None

abbrev pub ones_found : LineFinding → Option ℕ
ones_found (Shows ending ones) = ones
ones_found (Refuses number meaning) = None

abbrev pub code_found : LineFinding → Option ℕ
code_found (Shows ending ones) = None
code_found (Refuses number meaning) = Some number

abbrev pub meaning_found : LineFinding → Option (List ℕ)
meaning_found (Shows ending ones) = None
meaning_found (Refuses number meaning) = Some meaning

-- what is told of what was read: the letter of its kind, its table, its text, and how its table's run ends
abbrev pub kind_read : Result Recorded RecordFault → Option (List ℕ)
kind_read (Ok r) = Some (kind_text r.claim)
kind_read (Err f) = None

abbrev pub read_table_text : Result Recorded RecordFault → Option (List ℕ)
read_table_text (Ok r) = Some (text_of r.table)
read_table_text (Err f) = None

abbrev pub record_read : Result Recorded RecordFault → Option (List ℕ)
record_read (Ok r) = Some (record_text r)
record_read (Err f) = None

abbrev pub verdict_read : Result Recorded RecordFault → List ℕ
verdict_read (Ok r) = ending_name (ending_by r.claim)
verdict_read (Err f) = codes "refused"

abbrev pub code_read : Result Recorded RecordFault → Option ℕ
code_read (Ok r) = None
code_read (Err f) = Some (record_fault_number f)

abbrev pub meaning_read : Result Recorded RecordFault → Option (List ℕ)
meaning_read (Ok r) = None
meaning_read (Err f) = Some (record_fault_text f)

-- of `bb check`, by the number of the line, what was found, and the values of the other members
abbrev pub check_object_of : ℕ → LineFinding → Data → Data → Data → Data → Data
check_object_of number f kind meaning table text =
    object (
    member (codes "code") (number_value (code_found f)) (
    member (codes "kind") kind (
    member (codes "line") (count_value number) (
    member (codes "meaning") meaning (
    member (codes "ones") (number_value (ones_found f)) (
    member (codes "steps") (number_value (steps_found f)) (
    member (codes "table") table (
    member (codes "text") text (
    member (codes "verdict") (string (verdict_found f)) no_members)))))))))

abbrev pub check_object : ℕ → BoundedLine → Result Recorded RecordFault → LineFinding → Data
check_object number line read f =
    check_object_of number f (words_value (kind_read read)) (words_value (meaning_found f))
    (words_value (read_table_text read)) (words_value line)

-- of `bb explain`: the same, and the words for what has been shown
abbrev pub explain_object_of : ℕ → LineFinding → Data → Data → Data → Data → Data → Data
explain_object_of number f kind meaning table text words =
    object (
    member (codes "code") (number_value (code_found f)) (
    member (codes "kind") kind (
    member (codes "line") (count_value number) (
    member (codes "meaning") meaning (
    member (codes "ones") (number_value (ones_found f)) (
    member (codes "steps") (number_value (steps_found f)) (
    member (codes "table") table (
    member (codes "text") text (
    member (codes "verdict") (string (verdict_found f)) (
    member (codes "words") words no_members))))))))))

abbrev pub explain_object : ℕ → BoundedLine → Result Recorded RecordFault → LineFinding → Option (List ℕ) → Data
explain_object number line read f words =
    explain_object_of number f (words_value (kind_read read)) (words_value (meaning_found f))
    (words_value (read_table_text read)) (words_value line) (words_value words)

-- of `bb decide`: by the number of the line, and the record of its table, or the fault of its text
abbrev pub decide_object_of : ℕ → Result Recorded RecordFault → Data → Data → Data → Data → Data → Data
decide_object_of number decided kind meaning text_read table text =
    object (
    member (codes "code") (number_value (code_read decided)) (
    member (codes "kind") kind (
    member (codes "line") (count_value number) (
    member (codes "meaning") meaning (
    member (codes "record") text_read (
    member (codes "table") table (
    member (codes "text") text (
    member (codes "verdict") (string (verdict_read decided)) no_members))))))))

abbrev pub decide_object : ℕ → BoundedLine → Result Recorded RecordFault → Data
decide_object number line decided =
    decide_object_of number decided (words_value (kind_read decided)) (words_value (meaning_read decided))
    (words_value (record_read decided)) (words_value (read_table_text decided)) (words_value line)

-- the text of an object, in ASCII
abbrev pub object_text : Data → List ℕ
object_text o = ascii (compact_text o)

-- What is said to a line as JSON, and when that is so.

-- what `bb check --json` says to a line with such a number
pub record SaysChecked (number : ℕ) (line : BoundedLine) (o : Outcome) (answer : List ℕ) : Type 0 where
  pub f : LineFinding
  pub finds : Finds (read_line line) o f
  pub is : answer ≡ object_text (check_object number line (read_line line) f)

-- what `bb explain --json` says
pub record SaysTold (number : ℕ) (line : BoundedLine) (o : Outcome) (answer : List ℕ) : Type 0 where
  pub f : LineFinding
  pub words : Option (List ℕ)
  pub finds : Finds (read_line line) o f
  pub tells : AreWordsFor f words
  pub is : answer ≡ object_text (explain_object number line (read_line line) f words)

-- a record of the table that the decider answers, which is certified, and true
pub record IsDecidedRecord (Answers : Packed → Recorded → Type 0) (t : Packed) (decided : Recorded) : Type 0 where
  pub asked : Answers t decided
  pub table : decided.table ≡ t
  pub stands : IsTrueRecord decided

-- what comes of what was read: a record of the table, or its fault
abbrev pub DecidesRead : (Packed → Recorded → Type 0) → Result Packed RecordFault → Outcome
    → Result Recorded RecordFault → Type 0
DecidesRead Answers (Ok t) o (Ok r) = IsDecidedRecord Answers t r × (o ≡ Accepted)
DecidesRead Answers (Ok t) o (Err f) = ⊥
DecidesRead Answers (Err f) o decided = (decided ≡ Err f) × (o ≡ Refused)

-- what `bb decide --json` says to a line, where so the decider answers as it stands then
pub record SaysDecided {D : Type 0} (Answers : D → Packed → Recorded → Type 0) (number : ℕ) (line : BoundedLine)
    (o : Outcome) (answer : List ℕ) : Type 0 where
  pub decider : D
  pub decided : Result Recorded RecordFault
  pub decides : DecidesRead (Answers decider) (read_line_table line) o decided
  pub is : answer ≡ object_text (decide_object number line decided)

-- What is said to the lines of a stream, each by its number.

-- the number of the line behind so many; the greatest number of 64 bits is the last
abbrev pub number_behind : ℕ → ℕ
number_behind lines = if nat_lt lines (2 ^ 64 - 1) then lines + 1 else lines

-- what is said to lines, in their order, behind so many, where this may be said to each by its number, of which no more
-- is read than may be kept: each answer with its newline. The outcome is that of the first line that isn't accepted
abbrev pub AreAnsweredBehind : (ℕ → BoundedLine → Outcome → List ℕ → Type 0) → ℕ → List (List ℕ) → Outcome → List ℕ
    → Type 0
AreAnsweredBehind Says before [] o text = (o ≡ Accepted) × (text ≡ [])
AreAnsweredBehind Says before (line ∷ lines) o text =
    (first : Outcome) × (answer : List ℕ) × (later : Outcome) × (answers : List ℕ) ×
    Says (number_behind before) (bounded_line line) first answer
    × AreAnsweredBehind Says (number_behind before) lines later answers × (o ≡ first_fault first later)
    × (text ≡ answer ++ (10 ∷ answers))

-- a reader is read to its end, and the answers to its lines, numbered from 1 on, are written behind what a writer held
pub record AnswersNumbered (Says : ℕ → BoundedLine → Outcome → List ℕ → Type 0)
    (read new_read held new_held : Option (List ℕ)) (o : Outcome) : Type 0 where
  pub text : List ℕ
  pub lines : List (List ℕ)
  pub answers : List ℕ
  pub consumed : Consumes read new_read text
  pub whole : IsAtEnd new_read
  pub are_lines : AreLines text lines
  pub answered : AreAnsweredBehind Says 0 lines o answers
  pub written : Appends held new_held answers

-- these are the answers to the first lines of what was read, numbered so
pub record AnswersFirstNumbered (Says : ℕ → BoundedLine → Outcome → List ℕ → Type 0) (read new_read : Option (List ℕ))
    (answers : List ℕ) : Type 0 where
  pub lines : List (List ℕ)
  pub outcome : Outcome
  pub are_first : AreFirstLines read new_read lines
  pub answered : AreAnsweredBehind Says 0 lines outcome answers

-- what is said to one line behind so many is an answer with its newline, and that line is counted
abbrev pub SaysNumbered : (ℕ → BoundedLine → Outcome → List ℕ → Type 0) → ℕ → BoundedLine → Outcome → ℕ → List ℕ
    → Type 0
SaysNumbered Says before line o now said =
    (now ≡ number_behind before) × (answer : List ℕ) × Says now line o answer × (said ≡ answer ++ 10 ∷ [])
