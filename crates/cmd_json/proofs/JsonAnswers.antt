-- Answers in JSON: their characters, the numbers of their lines, and that they have no float.
use Rattle.std.proofs.Common.{◌≡◌, ℕ, List, [], ◌++◌, length, ap, ◌∙◌, IsUtf8, chars, flat_map, encode_utf8, Result, Ok, Err, OnOk, cond, ◌∷◌, Option, append_assoc, subst, IfOk, refl, sym, false, Some, None}
use Rattle.std.proofs.lemmas.List.{nil_from_length}
use Rattle.std.proofs.lemmas.Str.{chars-nil, chars_past_char, IsUtf8-from_ascii}
use Rattle.std.specs.Result.{is_ok}
use Rattle.cmd_json.specs.Objects.{ascii, ascii_character, AnswersFirstNumbered, AnswersNumbered, AreAnsweredBehind, SaysNumbered, DecidesRead, IsDecidedRecord, SaysDecided, decide_object, object_text, words_value, LineFinding, check_object, code_found, code_read, explain_object, kind_read, meaning_found, meaning_read, number_value, ones_found, record_read, steps_found, read_table_text}
use Rattle.machine_text.specs.Terms.{Packed, IsTable, text_of}
use Rattle.machine_text.proofs.RoundTrip.{text_below}
use Rattle.text.specs.Terms.{BoundedLine, bounded_line}
use Rattle.cmd_options.specs.declared.ended.Outcome.{Outcome}
use Rattle.cmd_options.specs.declared.ended.Ended.{Ended}
use Rattle.cmd_lines.proofs.AnsweredPieces.{said_so}
use Rattle.cmd_lines.specs.Terms.{IsSaidToFirst, WritesFirst, AreTakenBy, TakesStream, read_line_table}
use Rattle.cert.specs.Terms.{Recorded}
use Rattle.cert.specs.declared.record.RecordFault.{RecordFault}
use Rattle.cmd_options.specs.declared.ended.Outcome.TheVariants.{Accepted, Refused}
use Rattle.serde_json.specs.Written.{has_float}
use Rattle.ledger.specs.declared.counts.Tally.{Tally}
use Rattle.cmd_json.specs.Forms.{greatest_value, tables_value, report_value}

-- Of what a text's ASCII is made, character by character.
pub ascii_empty : (text : List ℕ) → length text ≡ 0 → ascii text ≡ []
unfolding ascii
ascii_empty text none = ap (λ t. flat_map ascii_character (chars t)) (nil_from_length text none) ∙ ap (flat_map ascii_character) chars-nil

pub ascii_step : (text rest : List ℕ) (c : ℕ) → IsUtf8 text → text ≡ encode_utf8 c ++ rest → ascii text ≡ ascii_character c ++ ascii rest
unfolding ascii
ascii_step text rest c utf8 parts = rw (chars_past_char text rest c utf8 parts)

-- The text of a table is UTF-8.
pub text_is_utf8 : (p : Packed) → IsTable p → IsUtf8 (text_of p)
text_is_utf8 p table = IsUtf8-from_ascii (text_of p) (text_below p table)

-- A text of a kind, appended whole.
pub appended : {T E : Type 0} (r : Result T E) (Is : List ℕ → Type 0) (old new text : List ℕ) → Is text → new ≡ cond (is_ok r) (old ++ text) old → OnOk r ((t : List ℕ) × Is t × (new ≡ old ++ t))
appended (Ok x) Is old new text is h = (text, is, h)
appended (Err e) Is old new text is h = tt

-- Answers to the lines of a stream, each by its number.

-- what one says who counts the lines
abbrev pub Counts : {D : Type 0} → (D → ℕ) → (ℕ → BoundedLine → Outcome → List ℕ → Type 0) → D → BoundedLine → Outcome → D → List ℕ → Type 0
Counts {D} count Says old line o new said = SaysNumbered Says (count old) line o (count new) said

lines_answered : {D : Type 0} (count : D → ℕ) (Says : ℕ → BoundedLine → Outcome → List ℕ → Type 0) (old : D) (lines : List (List ℕ)) (o : Outcome) (new : D) (said : List ℕ) →
    AreTakenBy (Counts count Says) old lines o new said → AreAnsweredBehind Says (count old) lines o said
lines_answered count Says old [] o new said so = (so.0, so.2)
lines_answered count Says old (line ∷ lines) o new said (first, middle, more, later, others, (now, answer, says, is), so, outcome, text) = (
  first,
  answer,
  later,
  others,
  subst (λ (n : ℕ). Says n (bounded_line line) first answer) now says,
  subst (λ (n : ℕ). AreAnsweredBehind Says n lines later others) now (lines_answered count Says middle lines later new others so),
  outcome,
  text ∙ (ap (λ (t : List ℕ). t ++ others) is ∙ append_assoc answer (10 ∷ []) others),
)

-- and so is a stream of them, of which none came before
pub stream_numbered : {D : Type 0} (count : D → ℕ) (Says : ℕ → BoundedLine → Outcome → List ℕ → Type 0) (old new : D) (read new_read held new_held : Option (List ℕ)) (o : Outcome) →
    count old ≡ 0 → TakesStream (Counts count Says) old new read new_read held new_held o → AnswersNumbered Says read new_read held new_held o
stream_numbered count Says old new read new_read held new_held o none so = record {
  text = so.text;
  lines = so.lines;
  answers = so.said;
  consumed = so.consumed;
  whole = so.whole;
  are_lines = so.are_lines;
  answered = subst (λ (n : ℕ). AreAnsweredBehind Says n so.lines o so.said) none (lines_answered count Says old so.lines o new so.said so.taken);
  written = so.written;
}

-- and so are the first lines, where that ended early
pub early_numbered : {D : Type 0} (count : D → ℕ) (Says : ℕ → BoundedLine → Outcome → List ℕ → Type 0) (old : D) (read new_read held new_held : Option (List ℕ)) (e : Ended) →
    count old ≡ 0 → WritesFirst (IsSaidToFirst (Counts count Says) old read new_read) held new_held e → WritesFirst (AnswersFirstNumbered Says read new_read) held new_held e
early_numbered count Says old read new_read held new_held e none so =
    said_so (IsSaidToFirst (Counts count Says) old read new_read) (AnswersFirstNumbered Says read new_read) held new_held e (λ said is. record {
      lines = is.lines;
      outcome = is.outcome;
      are_first = is.are_first;
      answered = subst (λ (n : ℕ). AreAnsweredBehind Says n is.lines is.outcome said) none (lines_answered count Says old is.lines is.outcome is.new said is.taken);
    }) so

-- What `bb decide` says to a line, by what was read of it.
pub table_says : {D E : Type 0} (Answers : D → Packed → Recorded → Type 0) (decider : D) (number : ℕ) (line : BoundedLine) (t : Packed) (old new : List ℕ)
    (result : Result Outcome E) → read_line_table line ≡ Ok t
    → IfOk result (λ o. (r : Recorded) × IsDecidedRecord (Answers decider) t r × (o ≡ Accepted) × (new ≡ (old ++ object_text (decide_object number line (Ok r))) ++ 10 ∷ []))
    → IfOk result (λ o. (answer : List ℕ) × SaysDecided Answers number line o answer × (new ≡ (old ++ answer) ++ 10 ∷ []))
table_says Answers decider number line t old new (Ok o) read (r, decided, accepted, is) = (
  object_text (decide_object number line (Ok r)),
  record {
    decider = decider;
    decided = Ok r;
    decides = subst (λ (q : Result Packed RecordFault). DecidesRead (Answers decider) q o (Ok r)) (sym read) (decided, accepted);
    is = refl;
  },
  is,
)
table_says Answers decider number line t old new (Err e) read so = so

pub fault_says : {D : Type 0} (Answers : D → Packed → Recorded → Type 0) (decider : D) (number : ℕ) (line : BoundedLine) (f : RecordFault) (old new : List ℕ)
    → read_line_table line ≡ Err f → new ≡ (old ++ object_text (decide_object number line (Err f))) ++ 10 ∷ []
    → (answer : List ℕ) × SaysDecided Answers number line Refused answer × (new ≡ (old ++ answer) ++ 10 ∷ [])
fault_says Answers decider number line f old new read is = (
  object_text (decide_object number line (Err f)),
  record {
    decider = decider;
    decided = Err f;
    decides = subst (λ (q : Result Packed RecordFault). DecidesRead (Answers decider) q Refused (Err f)) (sym read) (refl, refl);
    is = refl;
  },
  is,
)

-- The objects of answers have no number but whole ones, so no float.
number_has_none : (n : Option ℕ) → has_float (number_value n) ≡ false
number_has_none None = refl
number_has_none (Some n) = refl

words_have_none : (words : Option (List ℕ)) → has_float (words_value words) ≡ false
words_have_none None = refl
words_have_none (Some words) = refl

pub check_has_none : (number : ℕ) (line : BoundedLine) (read : Result Recorded RecordFault) (f : LineFinding) → has_float (check_object number line read f) ≡ false
check_has_none number line read f =
    rw (number_has_none (code_found f), words_have_none (kind_read read), words_have_none (meaning_found f), number_has_none (ones_found f), number_has_none (steps_found f), words_have_none (read_table_text read), words_have_none line) refl

pub explain_has_none : (number : ℕ) (line : BoundedLine) (read : Result Recorded RecordFault) (f : LineFinding) (words : Option (List ℕ)) → has_float (explain_object number line read f words) ≡ false
explain_has_none number line read f words =
    rw (number_has_none (code_found f), words_have_none (kind_read read), words_have_none (meaning_found f), number_has_none (ones_found f), number_has_none (steps_found f), words_have_none (read_table_text read), words_have_none line, words_have_none words) refl

pub decide_has_none : (number : ℕ) (line : BoundedLine) (decided : Result Recorded RecordFault) → has_float (decide_object number line decided) ≡ false
decide_has_none number line decided =
    rw (number_has_none (code_read decided), words_have_none (kind_read decided), words_have_none (meaning_read decided), words_have_none (record_read decided), words_have_none (read_table_text decided), words_have_none line) refl

-- A report has no number but counts, so no float.
tables_have_none : (tables : List Packed) → has_float (tables_value tables) ≡ false
tables_have_none [] = refl
tables_have_none (t ∷ tables) = tables_have_none tables

greatest_has_none : (greatest : Option ℕ) → has_float (greatest_value greatest) ≡ false
greatest_has_none None = refl
greatest_has_none (Some k) = refl

pub report_has_none : (root : Packed) (word : List ℕ) (tally : Tally) (champions ones_champions holdouts : List Packed)
    → has_float (report_value root word tally champions ones_champions holdouts) ≡ false
report_has_none root word tally champions ones_champions holdouts =
    rw (greatest_has_none tally.best, greatest_has_none tally.ones, tables_have_none champions, tables_have_none ones_champions, tables_have_none holdouts) refl
