-- Lines that are taken one after another, and answers to them by one who keeps what is asked for.
use Rattle.std.proofs.Common.{◌≡◌, ◌≢◌, inl, inr, ℕ, ◌+◌, List, [], ◌∷◌, ◌++◌, length, Option, Some, sym, ◌∙◌, ap, subst, refl, append_assoc, append-nil, arith, length-append, ◌≤◌, Result, Ok, Err, OnOk, if◌then◌else◌, codes, drop}
use Rattle.std.proofs.KnownBytes.{Consumes-nil, Consumes-trans}
use Rattle.std.specs.Io.KnownBytes.{Consumes}
use Rattle.std.proofs.lemmas.Bool.Decides.{nat_tests}
use Rattle.std.proofs.lemmas.List.Elements.{All-append, All-nil}
use Rattle.std.proofs.lemmas.List.{drop_at}
use Rattle.std.specs.Result.{is_ok}
use Rattle.text.specs.Terms.{joined, HasNoNewline, BeginsWithLine, BoundedLine, bounded_line, with_more}
use Rattle.cmd_lines.specs.Lines.{AreLines, AreOneLineEach, AreTakenInTurn, HasTakenLines, TakesMore}
use Rattle.cmd_lines.specs.inside.{HasTakenFrom, KeepsForm}
use Rattle.cmd_options.specs.declared.ended.Ended.{Ended}
use Rattle.cmd_options.specs.declared.ended.Outcome.{Outcome}
use Rattle.cmd_lines.specs.Stream.{AnswersFirst, IsSaidToFirst, WritesFirst, AreTakenBy, TakesStream, AnswersStream, AreAnswered, SaysAnswer}
use Rattle.cmd_lines.proofs.AnsweredPieces.{said_so, stream_first}
use Rattle.machine_text.specs.Terms.{text_of}
use Rattle.cert.specs.Terms.{Recorded, claim_text, record_text}

-- Lines that are taken one after another, and the text of which they are the lines.
joined_push : (lines : List (List ℕ)) (line : List ℕ) → joined (lines ++ line ∷ []) ≡ joined lines ++ (line ++ (10 ∷ []))
joined_push [] line = refl
joined_push (l ∷ lines) line = ap (λ t. l ++ (10 ∷ t)) (joined_push lines line) ∙ sym (append_assoc l (10 ∷ joined lines) (line ++ (10 ∷ [])))

whole_push : (lines : List (List ℕ)) (line : List ℕ) → AreOneLineEach lines → HasNoNewline line → AreOneLineEach (lines ++ line ∷ [])
whole_push [] line all one = (one, tt)
whole_push (l ∷ lines) line all one = (all.0, whole_push lines line all.1 one)

-- whole lines, and nothing behind them
lines_end : (lines : List (List ℕ)) → AreOneLineEach lines → AreLines (joined lines) lines
lines_end [] all = refl
lines_end (l ∷ lines) all = inl (joined lines, record { is = refl; one_line = all.0 }, lines_end lines all.1)

-- whole lines, and behind them a last one without newline
lines_last : (lines : List (List ℕ)) (last : List ℕ) → AreOneLineEach lines → last ≢ [] → HasNoNewline last → AreLines (joined lines ++ last) (lines ++ last ∷ [])
lines_last [] last all some one = inr (refl, some, one, refl)
lines_last (l ∷ lines) last all some one =
    inl (joined lines ++ last, record { is = append_assoc l (10 ∷ joined lines) last; one_line = all.0 }, lines_last lines last all.1 some one)

none_of_both : (xs ys : List ℕ) → HasNoNewline xs → HasNoNewline ys → HasNoNewline (xs ++ ys)
none_of_both xs ys first second = All-append (λ byte. byte ≢ 10) xs ys first second

bounded_more : (xs ys : List ℕ) → with_more (bounded_line xs) ys ≡ bounded_line (xs ++ ys)
bounded_more xs ys = grind (arith, nat_tests, length-append)

bounded_nothing : (xs : List ℕ) → bounded_line xs ≡ Some [] → xs ≡ []
bounded_nothing [] e = refl
bounded_nothing (x ∷ xs) e = grind (arith, nat_tests)

module _ {D : Type 0} (Takes : D → BoundedLine → D → Type 0) where
  -- one more line is taken
  taken_push : (old : D) (lines : List (List ℕ)) (line : List ℕ) (middle new : D) →
      AreTakenInTurn Takes old lines middle → Takes middle (bounded_line line) new → AreTakenInTurn Takes old (lines ++ line ∷ []) new
  taken_push old [] line middle new so takes = (new, subst (λ d. Takes d (bounded_line line) new) so takes, refl)
  taken_push old (l ∷ lines) line middle new (d, first, later) takes = (d, first, taken_push d lines line middle new later takes)

  -- nothing has come
  pub nothing_taken : (start : D) → HasTakenLines Takes start [] (Some []) start
  nothing_taken start = record { lines = []; last = []; are_whole = tt; one_line = All-nil (λ byte. byte ≢ 10); is = refl; kept = refl; taken = refl }

  -- more bytes of the same line
  pub line_taken : (start : D) (text : List ℕ) (begun : BoundedLine) (now : D) (more : List ℕ) →
      HasTakenLines Takes start text begun now → HasNoNewline more → HasTakenLines Takes start (text ++ more) (with_more begun more) now
  line_taken start text begun now more so one = record {
    lines = so.lines;
    last = so.last ++ more;
    are_whole = so.are_whole;
    one_line = none_of_both so.last more so.one_line one;
    is = ap (λ t. t ++ more) so.is ∙ append_assoc (joined so.lines) so.last more;
    kept = ap (λ k. with_more k more) so.kept ∙ bounded_more so.last more;
    taken = so.taken;
  }

  -- the newline comes, and the line is taken
  pub line_ended : (start : D) (text : List ℕ) (begun : BoundedLine) (now next : D) →
      HasTakenLines Takes start text begun now → Takes now begun next → HasTakenLines Takes start (text ++ (10 ∷ [])) (Some []) next
  line_ended start text begun now next so takes = record {
    lines = so.lines ++ so.last ∷ [];
    last = [];
    are_whole = whole_push so.lines so.last so.are_whole so.one_line;
    one_line = All-nil (λ byte. byte ≢ 10);
    is = ap (λ t. t ++ (10 ∷ [])) so.is ∙ append_assoc (joined so.lines) so.last (10 ∷ []) ∙ sym (joined_push so.lines so.last) ∙ sym (append-nil (joined (so.lines ++ so.last ∷ [])));
    kept = refl;
    taken = taken_push start so.lines so.last now next so.taken (subst (λ k. Takes now k next) so.kept takes);
  }

  -- a whole line comes, and is taken
  pub whole_taken : (start : D) (all done left line rest : List ℕ) (begun : BoundedLine) (now next : D) →
      all ≡ done ++ left → BeginsWithLine left line rest → HasTakenLines Takes start done begun now → Takes now (with_more begun line) next →
      (x : List ℕ) × (all ≡ x ++ rest) × HasTakenLines Takes start x (Some []) next
  whole_taken start all done left line rest begun now next is begins so takes = (
    (done ++ line) ++ (10 ∷ []),
    is ∙ ap (λ t. done ++ t) begins.is ∙ sym (append_assoc done line (10 ∷ rest)) ∙ sym (append_assoc (done ++ line) (10 ∷ []) rest),
    line_ended start (done ++ line) (with_more begun line) now next (line_taken start done begun now line so begins.one_line) takes,
  )

  -- at the end of the text nothing stands behind the last newline
  pub nothing_begun : (start : D) (text : List ℕ) (now : D) → HasTakenLines Takes start text (Some []) now → (lines : List (List ℕ)) × AreLines text lines × AreTakenInTurn Takes start lines now
  nothing_begun start text now so =
      let none = bounded_nothing so.last (sym so.kept) in
      let same : text ≡ joined so.lines = so.is ∙ ap (λ b. joined so.lines ++ b) none ∙ append-nil (joined so.lines) in
      (so.lines, subst (λ t. AreLines t so.lines) (sym same) (lines_end so.lines so.are_whole), so.taken)

  -- or a last line without newline, which is taken
  pub last_taken : (start : D) (text : List ℕ) (begun : BoundedLine) (now next : D) → HasTakenLines Takes start text begun now → begun ≢ Some [] → Takes now begun next →
      (lines : List (List ℕ)) × AreLines text lines × AreTakenInTurn Takes start lines next
  last_taken start text begun now next so some takes = (
    so.lines ++ so.last ∷ [],
    subst (λ t. AreLines t (so.lines ++ so.last ∷ [])) (sym so.is) (lines_last so.lines so.last so.are_whole (λ none. some (so.kept ∙ ap bounded_line none)) so.one_line),
    taken_push start so.lines so.last now next so.taken (subst (λ k. Takes now k next) so.kept takes),
  )

  -- nothing is read yet
  pub nothing_read : (begun : BoundedLine) (old : D) (read : Option (List ℕ)) (limit : ℕ) → HasTakenFrom Takes begun old read limit begun old read limit
  nothing_read begun old read limit = record {
    text = [];
    consumed = Consumes-nil read;
    taken = λ start text so. subst (λ t. HasTakenLines Takes start t begun old) (sym (append-nil text)) so;
    size = omega arith;
  }

  -- a piece more is read, and taken
  pub piece_read : (begun : BoundedLine) (old : D) (read : Option (List ℕ)) (limit : ℕ) (mid_begun : BoundedLine) (mid : D) (mid_read : Option (List ℕ)) (left : ℕ)
      (new_begun : BoundedLine) (new : D) (new_read : Option (List ℕ)) (after : ℕ) (piece : List ℕ) → HasTakenFrom Takes begun old read limit mid_begun mid mid_read left →
      Consumes mid_read new_read piece → TakesMore Takes piece mid_begun mid new_begun new → length piece + after ≡ left → HasTakenFrom Takes begun old read limit new_begun new new_read after
  piece_read begun old read limit mid_begun mid mid_read left new_begun new new_read after piece so reads takes size = record {
    text = so.text ++ piece;
    consumed = Consumes-trans read mid_read new_read so.text piece so.consumed reads;
    taken = λ start text has. subst (λ t. HasTakenLines Takes start t new_begun new) (append_assoc text so.text piece) (takes start (text ++ so.text) (so.taken start text has));
    size = omega (arith, so.size, size, length-append so.text piece);
  }

-- Answers to the lines of a stream.

-- lines to each of which an answer is said are answered
lines_answered : {D : Type 0} (Says : BoundedLine → Outcome → List ℕ → Type 0) (old : D) (lines : List (List ℕ)) (o : Outcome) (new : D) (said : List ℕ) →
    AreTakenBy (SaysAnswer Says) old lines o new said → AreAnswered Says lines o said
lines_answered Says old [] o new said so = (so.0, so.2)
lines_answered Says old (line ∷ lines) o new said (first, middle, more, later, others, (answer, says, is), so, outcome, text) =
    (first, answer, later, others, says, lines_answered Says middle lines later new others so, outcome, text ∙ (ap (λ (t : List ℕ). t ++ others) is ∙ append_assoc answer (10 ∷ []) others))

-- and so is a stream of them
pub stream_answered : {D : Type 0} (Says : BoundedLine → Outcome → List ℕ → Type 0) (old new : D) (read new_read held new_held : Option (List ℕ)) (o : Outcome) →
    TakesStream (SaysAnswer Says) old new read new_read held new_held o → AnswersStream Says read new_read held new_held o
stream_answered Says old new read new_read held new_held o so = record {
  text = so.text;
  lines = so.lines;
  answers = so.said;
  consumed = so.consumed;
  whole = so.whole;
  are_lines = so.are_lines;
  answered = lines_answered Says old so.lines o new so.said so.taken;
  written = so.written;
}

-- the first lines of what was read, to each of which an answer is said, are answered
pub first_answered : {D : Type 0} (Says : BoundedLine → Outcome → List ℕ → Type 0) (old : D) (read new_read : Option (List ℕ)) (said : List ℕ) → IsSaidToFirst (SaysAnswer Says) old read new_read said → AnswersFirst Says read new_read said
first_answered Says old read new_read said so = record {
  lines = so.lines;
  outcome = so.outcome;
  are_first = so.are_first;
  answered = lines_answered Says old so.lines so.outcome so.new said so.taken;
}

-- where that ended early
pub early_answered : {D : Type 0} (Says : BoundedLine → Outcome → List ℕ → Type 0) (old : D) (read new_read held new_held : Option (List ℕ)) (e : Ended) → WritesFirst (IsSaidToFirst (SaysAnswer Says) old read new_read) held new_held e
    → WritesFirst (AnswersFirst Says read new_read) held new_held e
early_answered Says old read new_read held new_held e so = said_so (IsSaidToFirst (SaysAnswer Says) old read new_read) (AnswersFirst Says read new_read) held new_held e (first_answered Says old read new_read) so

-- or where what came behind it did
pub all_answered : {D : Type 0} (Says : BoundedLine → Outcome → List ℕ → Type 0) (old new : D) (read new_read held new_held : Option (List ℕ)) (o : Outcome) (e : Ended) → TakesStream (SaysAnswer Says) old new read new_read held new_held o
    → WritesFirst (AnswersFirst Says read new_read) held new_held e
all_answered Says old new read new_read held new_held o e so = early_answered Says old read new_read held new_held e (stream_first (SaysAnswer Says) old new read new_read held new_held o e so)

-- Lines that are answered by one who keeps what is asked for.
module _ {D A : Type 0} (asked : D → A) (Says : A → BoundedLine → Outcome → List ℕ → Type 0) where
  lines_kept : (old : D) (lines : List (List ℕ)) (o : Outcome) (new : D) (said : List ℕ) → AreTakenBy (KeepsForm asked Says) old lines o new said
      → AreTakenBy (SaysAnswer (Says (asked old))) old lines o new said
  lines_kept old [] o new said so = so
  lines_kept old (line ∷ lines) o new said (first, middle, more, later, others, (same, says), so, outcome, text) = (
    first,
    middle,
    more,
    later,
    others,
    says,
    subst (λ (a : A). AreTakenBy (SaysAnswer (Says a)) middle lines later new others) same (lines_kept middle lines later new others so),
    outcome,
    text,
  )

  pub stream_kept : (old new : D) (read new_read held new_held : Option (List ℕ)) (o : Outcome) → TakesStream (KeepsForm asked Says) old new read new_read held new_held o
      → AnswersStream (Says (asked old)) read new_read held new_held o
  stream_kept old new read new_read held new_held o so =
      stream_answered (Says (asked old)) old new read new_read held new_held o (record {
        text = so.text;
        lines = so.lines;
        said = so.said;
        consumed = so.consumed;
        whole = so.whole;
        are_lines = so.are_lines;
        taken = lines_kept old so.lines o new so.said so.taken;
        written = so.written;
      })

  -- where that ended early
  pub early_kept : (old : D) (read new_read held new_held : Option (List ℕ)) (e : Ended) → WritesFirst (IsSaidToFirst (KeepsForm asked Says) old read new_read) held new_held e
      → WritesFirst (AnswersFirst (Says (asked old)) read new_read) held new_held e
  early_kept old read new_read held new_held e so =
      said_so (IsSaidToFirst (KeepsForm asked Says) old read new_read) (AnswersFirst (Says (asked old)) read new_read) held new_held e (λ said is. first_answered (Says (asked old)) old read new_read said (record {
        lines = is.lines;
        outcome = is.outcome;
        new = is.new;
        are_first = is.are_first;
        taken = lines_kept old is.lines is.outcome is.new said is.taken;
      })) so

  -- or where what came behind it did
  pub all_kept : (old new : D) (read new_read held new_held : Option (List ℕ)) (o : Outcome) (e : Ended) → TakesStream (KeepsForm asked Says) old new read new_read held new_held o
      → WritesFirst (AnswersFirst (Says (asked old)) read new_read) held new_held e
  all_kept old new read new_read held new_held o e so =
      early_kept old read new_read held new_held e (stream_first (KeepsForm asked Says) old new read new_read held new_held o e so)

-- What follows the table in a record's text.

-- a record's text is longer than its table
pub table_within : (r : Recorded) → length (text_of r.table) ≤ length (record_text r)
unfolding record_text
table_within r =
    let whole : length ((text_of r.table ++ codes " ") ++ claim_text r.claim) ≡ length (text_of r.table ++ codes " ") + length (claim_text r.claim) = length-append (text_of r.table ++ codes " ") (claim_text r.claim) in
    let front : length (text_of r.table ++ codes " ") ≡ length (text_of r.table) + length (codes " ") = length-append (text_of r.table) (codes " ") in
    omega arith

-- what follows it, behind the table as it came
pub kept : (old came : List ℕ) (r : Recorded) → (old ++ came) ++ drop (length (text_of r.table)) (record_text r) ≡ old ++ ((came ++ codes " ") ++ claim_text r.claim)
unfolding record_text
kept old came r =
    let table = text_of r.table in
    let claim = claim_text r.claim in
    let behind : drop (length table) ((table ++ codes " ") ++ claim) ≡ codes " " ++ claim =
    ap (drop (length table)) (append_assoc table (codes " ") claim) ∙ drop_at table (codes " " ++ claim) (length table) refl
    in
    ap (λ (text : List ℕ). (old ++ came) ++ text) behind ∙ simp append_assoc

pub kept_text : (r : Recorded) (came old middle new text behind table : List ℕ) → text ≡ record_text r → table ≡ text_of r.table → middle ≡ old ++ came → behind ≡ drop (length table) text → new ≡ middle ++ behind
    → new ≡ old ++ ((came ++ codes " ") ++ claim_text r.claim)
kept_text r came old middle new text behind table is_text is_table begun cut more =
    let same : behind ≡ drop (length (text_of r.table)) (record_text r) = cut ∙ (ap (λ (t : List ℕ). drop (length t) text) is_table ∙ ap (drop (length (text_of r.table))) is_text) in
    more ∙ (ap (λ (t : List ℕ). t ++ behind) begun ∙ (ap (λ (t : List ℕ). (old ++ came) ++ t) same ∙ kept old came r))

-- what holds once a call has come to its end
pub ok_then : {A E : Type 0} (r : Result A E) {P Q : Type 0} → (P → Q) → OnOk r P → OnOk r Q
ok_then (Ok a) f p = f p
ok_then (Err e) f p = tt

-- or only then
pub when_ok : {A E : Type 0} (r : Result A E) (new grown held : List ℕ) → new ≡ (if is_ok r then grown else held) → OnOk r (new ≡ grown)
when_ok (Ok a) new grown held is = is
when_ok (Err e) new grown held is = tt
