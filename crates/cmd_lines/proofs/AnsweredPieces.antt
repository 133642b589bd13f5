-- What is said to the lines of a text, piece for piece, or of the first where that ends early.
use Rattle.std.proofs.Common.{◌≡◌, ◌≢◌, inl, ℕ, List, [], ◌∷◌, ◌++◌, Option, sym, ◌∙◌, ap, subst, refl, append_assoc, append-nil, ◌⊎◌, inr, Result, Ok, Err, OnOk, OnErr, IfOk, IfErr, IsErrAnd}
use Rattle.std.proofs.KnownBytes.{Appends-trans, Consumes-trans, Appends-nil, Consumes-kept, Consumes-nil}
use Rattle.std.specs.Io.KnownBytes.{Consumes, Appends, IsAtEnd, Keeps}
use Rattle.text.specs.Terms.{joined, BoundedLine}
use Rattle.cmd_options.specs.declared.ended.Outcome.{Outcome}
use Rattle.cmd_options.specs.declared.ended.Outcome.TheVariants.{Accepted, Refused, BadLine, NoMemory, Failed}
use Rattle.cmd_lines.specs.Lines.{AreLines, AreOneLineEach, AreTakenInTurn, HasTakenLines, TakesMore, AreFirstLines, HasTakenFirst, TakesFirst}
use Rattle.cmd_lines.specs.Stream.{AreTakenBy, TakesStream, first_fault, EndsSaying, IsSaidToFirst, WritesFirst}
use Rattle.cmd_lines.specs.inside.{IsSaid, SaysBehind, SaysBut}
use Rattle.cmd_lines.specs.declared.said.Saying.{Saying}
use Rattle.cmd_options.specs.Terms.{EndsTold, IsCutShort, outcome_of}
use Rattle.cmd_options.specs.declared.ended.Ended.{Ended}
use Rattle.cmd_options.specs.declared.ended.Ended.TheVariants.{Stream, NoMemory as WantsMemory}

-- What is said to lines, piece for piece of the text of which they are the lines.
fault_assoc : (a b c : Outcome) → first_fault a (first_fault b c) ≡ first_fault (first_fault a b) c
fault_assoc Accepted b c = refl
fault_assoc Refused b c = refl
fault_assoc BadLine b c = refl
fault_assoc NoMemory b c = refl
fault_assoc Failed b c = refl

fault_none : (o : Outcome) → o ≡ first_fault o Accepted
fault_none Accepted = refl
fault_none Refused = refl
fault_none BadLine = refl
fault_none NoMemory = refl
fault_none Failed = refl

pub joined_both : (lines more : List (List ℕ)) → joined (lines ++ more) ≡ joined lines ++ joined more
joined_both [] more = refl
joined_both (l ∷ lines) more = ap (λ t. l ++ (10 ∷ t)) (joined_both lines more) ∙ sym (append_assoc l (10 ∷ joined lines) (joined more))

pub whole_both : (lines more : List (List ℕ)) → AreOneLineEach lines → AreOneLineEach more → AreOneLineEach (lines ++ more)
whole_both [] more all others = others
whole_both (l ∷ lines) more all others = (all.0, whole_both lines more all.1 others)

-- whole lines, and behind them the lines of what stands there
pub lines_behind : (lines more : List (List ℕ)) (text : List ℕ) → AreOneLineEach lines → AreLines text more → AreLines (joined lines ++ text) (lines ++ more)
lines_behind [] more text all are = are
lines_behind (l ∷ lines) more text all are =
    inl (joined lines ++ text, record { is = append_assoc l (10 ∷ joined lines) text; one_line = all.0 }, lines_behind lines more text all.1 are)

module _ {S : Type 0} (Takes : S → BoundedLine → Outcome → S → List ℕ → Type 0) where
  -- what is said to lines waits behind what waited before
  abbrev pub Behind : Saying S → BoundedLine → Saying S → Type 0
  Behind a line b = SaysBehind Takes a.sayer a.outcome a.waits.items line b.sayer b.outcome b.waits.items

  pub said_in_turn : (old : Saying S) (lines : List (List ℕ)) (new : Saying S) → AreTakenInTurn Behind old lines new →
      (o : Outcome) × (said : List ℕ) × AreTakenBy Takes old.sayer lines o new.sayer said × (new.outcome ≡ first_fault old.outcome o) × (new.waits.items ≡ old.waits.items ++ said)
  said_in_turn old [] new same = (
    Accepted,
    [],
    (refl, ap (λ (s : Saying S). s.sayer) same, refl),
    ap (λ (s : Saying S). s.outcome) same ∙ fault_none old.outcome,
    ap (λ (s : Saying S). s.waits.items) same ∙ sym (append-nil old.waits.items),
  )
  said_in_turn old (line ∷ lines) new (middle, (first, more, takes, fault, waits), rest) =
      let (later, others, so, faults, behind) = said_in_turn middle lines new rest in (
        first_fault first later,
        more ++ others,
        (first, middle.sayer, more, later, others, takes, so, refl, refl),
        faults ∙ (ap (λ (p : Outcome). first_fault p later) fault ∙ sym (fault_assoc old.outcome first later)),
        behind ∙ (ap (λ (t : List ℕ). t ++ others) waits ∙ append_assoc old.waits.items more others),
      )

  -- lines that are taken, and then others
  pub taken_both : (old : S) (lines : List (List ℕ)) (o : Outcome) (middle : S) (said : List ℕ) (more : List (List ℕ)) (later : Outcome) (new : S) (others : List ℕ) →
      AreTakenBy Takes old lines o middle said → AreTakenBy Takes middle more later new others → AreTakenBy Takes old (lines ++ more) (first_fault o later) new (said ++ others)
  taken_both old [] o middle said more later new others so then =
      subst (λ (d : S). AreTakenBy Takes d more (first_fault o later) new (said ++ others)) so.1
      (subst (λ (p : Outcome). AreTakenBy Takes middle more p new (said ++ others)) (sym (ap (λ (p : Outcome). first_fault p later) so.0))
      (subst (λ (t : List ℕ). AreTakenBy Takes middle more later new t) (sym (ap (λ (t : List ℕ). t ++ others) so.2)) then))
  taken_both old (l ∷ lines) o middle said more later new others (f, d, m, next, rest, begun, so, outcome, text) then = (
    f,
    d,
    m,
    first_fault next later,
    rest ++ others,
    begun,
    taken_both d lines next middle rest more later new others so then,
    ap (λ (p : Outcome). first_fault p later) outcome ∙ sym (fault_assoc f next later),
    ap (λ (t : List ℕ). t ++ others) text ∙ append_assoc m rest others,
  )

  -- of the line that is begun nothing is taken yet
  pub begun_alone : (old : Saying S) (begun : BoundedLine) (start : S) (read new_read held new_held : Option (List ℕ)) (o : Outcome) (now : S) →
      (so : IsSaid Takes start read new_read held new_held begun o now) → HasTakenLines Behind old so.last begun old
  begun_alone old begun start read new_read held new_held o now so = record {
    lines = [];
    last = so.last;
    are_whole = tt;
    one_line = so.one_line;
    is = refl;
    kept = so.kept;
    taken = refl;
  }

  -- a piece more is read, and what was said to the lines that end in it is written
  pub piece_said : (start : S) (read new_read newer_read held new_held newer_held : Option (List ℕ)) (begun newer : BoundedLine) (old new : Saying S) (piece : List ℕ) →
      IsSaid Takes start read new_read held new_held begun old.outcome old.sayer → old.waits.items ≡ [] → Consumes new_read newer_read piece →
      TakesMore Behind piece begun old newer new → Appends new_held newer_held new.waits.items →
      IsSaid Takes start read newer_read held newer_held newer new.outcome new.sayer
  piece_said start read new_read newer_read held new_held newer_held begun newer old new piece so none reads takes writes =
      let has = takes old so.last (begun_alone old begun start read new_read held new_held old.outcome old.sayer so) in
      let (o, said, by, fault, waits) = said_in_turn old has.lines new has.taken in
      record {
        text = so.text ++ piece;
        lines = so.lines ++ has.lines;
        last = has.last;
        said = so.said ++ said;
        consumed = Consumes-trans read new_read newer_read so.text piece so.consumed reads;
        are_whole = whole_both so.lines has.lines so.are_whole has.are_whole;
        one_line = has.one_line;
        is = ap (λ (t : List ℕ). t ++ piece) so.is ∙ (append_assoc (joined so.lines) so.last piece ∙ (ap (λ (t : List ℕ). joined so.lines ++ t) has.is
            ∙ (sym (append_assoc (joined so.lines) (joined has.lines) has.last) ∙ ap (λ (t : List ℕ). t ++ has.last) (sym (joined_both so.lines has.lines)))));
        kept = has.kept;
        taken = subst (λ (p : Outcome). AreTakenBy Takes start (so.lines ++ has.lines) p new.sayer (so.said ++ said)) (sym fault)
            (taken_both start so.lines old.outcome old.sayer so.said has.lines o new.sayer said so.taken by);
        written = Appends-trans held new_held newer_held so.said said so.written
            (subst (λ (t : List ℕ). Appends new_held newer_held t) (waits ∙ ap (λ (t : List ℕ). t ++ said) none) writes);
      }

  -- at the end of the stream
  pub stream_said : (start : S) (read new_read held new_held newer_held : Option (List ℕ)) (begun : BoundedLine) (old new : Saying S) → IsAtEnd new_read →
      IsSaid Takes start read new_read held new_held begun old.outcome old.sayer → old.waits.items ≡ [] →
      ((first : Saying S) (text : List ℕ) → HasTakenLines Behind first text begun old → (lines : List (List ℕ)) × AreLines text lines × AreTakenInTurn Behind first lines new) →
      Appends new_held newer_held new.waits.items → TakesStream Takes start new.sayer read new_read held newer_held new.outcome
  stream_said start read new_read held new_held newer_held begun old new whole so none ends writes =
      let (lines, are, turn) = ends old so.last (begun_alone old begun start read new_read held new_held old.outcome old.sayer so) in
      let (o, said, by, fault, waits) = said_in_turn old lines new turn in
      record {
        text = so.text;
        lines = so.lines ++ lines;
        said = so.said ++ said;
        consumed = so.consumed;
        whole = whole;
        are_lines = subst (λ (t : List ℕ). AreLines t (so.lines ++ lines)) (sym so.is) (lines_behind so.lines lines so.last so.are_whole are);
        taken = subst (λ (p : Outcome). AreTakenBy Takes start (so.lines ++ lines) p new.sayer (so.said ++ said)) (sym fault)
            (taken_both start so.lines old.outcome old.sayer so.said lines o new.sayer said so.taken by);
        written = Appends-trans held new_held newer_held so.said said so.written
            (subst (λ (t : List ℕ). Appends new_held newer_held t) (waits ∙ ap (λ (t : List ℕ). t ++ said) none) writes);
      }

-- What was taken and said where the taking ended early.
module _ {D : Type 0} (Takes : D → BoundedLine → D → Type 0) (Leaves : D → D → Type 0) where
  -- what stands before the rest of a text was taken, and then the taking ended
  pub first_taken : (start : D) (all done left : List ℕ) (begun : BoundedLine) (now new : D) → all ≡ done ++ left → HasTakenLines Takes start done begun now → (new ≡ now) ⊎ Leaves now new
      → HasTakenFirst Takes Leaves start all new
  first_taken start all done left begun now new is so ends = record {
    lines = so.lines;
    begins = (so.last ++ left, so.are_whole, is ∙ (ap (λ (t : List ℕ). t ++ left) so.is ∙ append_assoc (joined so.lines) so.last left));
    last = now;
    taken = so.taken;
    left = ends;
  }

  -- a piece is taken, whether that ended early or not
  pub piece_first : (r : Result (Unit {0}) Ended) (piece : List ℕ) (begun newer : BoundedLine) (old new : D) → OnOk r (TakesMore Takes piece begun old newer new) → OnErr r (TakesFirst Takes Leaves piece begun old new)
      → TakesFirst Takes Leaves piece begun old new
  piece_first (Ok u) piece begun newer old new more first = λ start text so. first_taken start (text ++ piece) (text ++ piece) [] newer new new (sym (append-nil (text ++ piece))) (more start text so) (inl refl)
  piece_first (Err e) piece begun newer old new more first = first

pub behind_err : {X : Type 0} (r : Result X Ended) (P : Type 0) → P → OnErr r P
behind_err (Ok x) P is = tt
behind_err (Err e) P is = is

-- what ended a call ends its caller
pub IfErr-from_is_err_and : {X : Type 0} (r : Result X Ended) (Q P : Ended → Type 0) → IsErrAnd r Q → ((e : Ended) → Q e → P e) → IfErr r P
IfErr-from_is_err_and (Ok x) Q P is so = absurd is
IfErr-from_is_err_and (Err e) Q P is so = so e is

-- and by it
pub IfErr-passed : {X : Type 0} (r : Result X Ended) (e : Ended) (P : Ended → Type 0) → IsErrAnd r (λ x. x ≡ e) → P e → IfErr r P
IfErr-passed r e P is so = IfErr-from_is_err_and r (λ x. x ≡ e) P is (λ x same. subst P (sym same) so)

-- what was said otherwise
pub said_so : (A B : List ℕ → Type 0) (held new_held : Option (List ℕ)) (e : Ended) → ((said : List ℕ) → A said → B said) → WritesFirst A held new_held e → WritesFirst B held new_held e
said_so A B held new_held e so (said, is, written) = (said, so said is, written)

-- what ended a command is told
pub ends_saying : (All : Outcome → Type 0) (First : List ℕ → Type 0) (held new_held : Option (List ℕ)) (ended : Result Outcome Ended) (told new_told : Option (List ℕ)) (o : Outcome) → IfOk ended All
    → IfErr ended (WritesFirst First held new_held) → IfErr ended (λ e. (outcome_of e ≡ NoMemory) ⊎ (outcome_of e ≡ Failed)) → EndsTold ended told new_told o → EndsSaying All First held new_held o
ends_saying All First held new_held (Ok p) told new_told o all first out ends = inl (subst All (sym ends.0) all)
ends_saying All First held new_held (Err e) told new_told o all (said, is, inl written) out (inr cut) = inr (inr (cut.0, said, is, inl written))
ends_saying All First held new_held (Err e) told new_told o all (said, is, inr part) out (inr cut) = inr (inr (cut.0, said, is, inr part.1))
ends_saying All First held new_held (Err e) told new_told o all (said, is, inl written) (inl memory) (inl so) = inr (inl (so.0 ∙ memory, said, is, written))
ends_saying All First held new_held (Err e) told new_told o all (said, is, inl written) (inr failed) (inl so) = inr (inr (so.0 ∙ failed, said, is, inl written))
ends_saying All First held new_held (Err e) told new_told o all (said, is, inr part) out (inl so) = inr (inr (so.0 ∙ ap outcome_of part.0, said, is, inr part.1))

outcome_either : (ended : Result Outcome Ended) → IfErr ended (λ e. (e ≡ WantsMemory) ⊎ (e ≡ Stream)) → IfErr ended (λ e. (outcome_of e ≡ NoMemory) ⊎ (outcome_of e ≡ Failed))
outcome_either (Ok p) err = tt
outcome_either (Err e) (inl memory) = inl (ap outcome_of memory)
outcome_either (Err e) (inr stream) = inr (ap outcome_of stream)

-- where that is refused memory or a stream that failed
pub told_saying : (All : Outcome → Type 0) (First : List ℕ → Type 0) (held new_held : Option (List ℕ)) (ended : Result Outcome Ended) (told new_told : Option (List ℕ)) (o : Outcome) → IfOk ended All
    → IfErr ended (WritesFirst First held new_held) → IfErr ended (λ e. (e ≡ WantsMemory) ⊎ (e ≡ Stream)) → EndsTold ended told new_told o → EndsSaying All First held new_held o
told_saying All First held new_held ended told new_told o all first err ends = ends_saying All First held new_held ended told new_told o all first (outcome_either ended err) ends

module _ {S : Type 0} (Takes : S → BoundedLine → Outcome → S → List ℕ → Type 0) where
  -- no line is taken
  pub none_said : (start : S) (read held : Option (List ℕ)) (e : Ended) → WritesFirst (IsSaidToFirst Takes start read read) held held e
  none_said start read held e = (
    [],
    record {
      lines = [];
      outcome = Accepted;
      new = start;
      are_first = record { text = []; consumed = Consumes-nil read; first = inl ([], tt, refl) };
      taken = (refl, refl, refl);
    },
    inl (Appends-nil held),
  )

  -- what is read is taken, and what was said to it is written
  pub said_first : (start : S) (read new_read newer_read held new_held : Option (List ℕ)) (begun : BoundedLine) (o : Outcome) (now : S) (e : Ended) → IsSaid Takes start read new_read held new_held begun o now → Keeps new_read newer_read
      → WritesFirst (IsSaidToFirst Takes start read newer_read) held new_held e
  said_first start read new_read newer_read held new_held begun o now e so kept = (
    so.said,
    record {
      lines = so.lines;
      outcome = o;
      new = now;
      are_first = record { text = so.text; consumed = Consumes-kept read new_read newer_read so.text so.consumed kept; first = inl (so.last, so.are_whole, so.is) };
      taken = so.taken;
    },
    inl so.written,
  )

  -- nothing more is read
  pub nothing_more : (start : S) (read new_read newer_read held new_held : Option (List ℕ)) (begun : BoundedLine) (o : Outcome) (now : S) → IsSaid Takes start read new_read held new_held begun o now → Consumes new_read newer_read []
      → IsSaid Takes start read newer_read held new_held begun o now
  nothing_more start read new_read newer_read held new_held begun o now so reads = record {
    text = so.text;
    lines = so.lines;
    last = so.last;
    said = so.said;
    consumed = subst (λ (t : List ℕ). Consumes read newer_read t) (append-nil so.text) (Consumes-trans read new_read newer_read so.text [] so.consumed reads);
    are_whole = so.are_whole;
    one_line = so.one_line;
    is = so.is;
    kept = so.kept;
    taken = so.taken;
    written = so.written;
  }

  -- all of a stream is taken
  pub stream_first : (start new : S) (read new_read held new_held : Option (List ℕ)) (o : Outcome) (e : Ended) → TakesStream Takes start new read new_read held new_held o
      → WritesFirst (IsSaidToFirst Takes start read new_read) held new_held e
  stream_first start new read new_read held new_held o e so = (
    so.said,
    record {
      lines = so.lines;
      outcome = o;
      new = new;
      are_first = record { text = so.text; consumed = so.consumed; first = inr (so.whole, so.are_lines) };
      taken = so.taken;
    },
    inl so.written,
  )

  abbrev pub Waits : Saying S → Saying S → Type 0
  Waits old new = new.waits.items ≡ old.waits.items

  still_waits : (last new : Saying S) → (new ≡ last) ⊎ Waits last new → new.waits.items ≡ last.waits.items
  still_waits last new (inl same) = ap (λ (s : Saying S). s.waits.items) same
  still_waits last new (inr waits) = waits

  -- behind what is read and said, lines are taken, which may be the first of a piece more
  lines_but : (start : S) (read new_read newer_read held new_held : Option (List ℕ)) (begun : BoundedLine) (old last new : Saying S) (text : List ℕ) (lines : List (List ℕ)) → (so : IsSaid Takes start read new_read held new_held begun old.outcome old.sayer)
      → old.waits.items ≡ [] → AreFirstLines read newer_read (so.lines ++ lines) → AreTakenInTurn (Behind Takes) old lines last → new.waits.items ≡ last.waits.items → SaysBut Takes start read newer_read held new_held new.waits.items
  lines_but start read new_read newer_read held new_held begun old last new text lines so none first turn waits =
      let (o, said, by, fault, behind) = said_in_turn Takes old lines last turn in
      let is : new.waits.items ≡ said = waits ∙ (behind ∙ ap (λ (t : List ℕ). t ++ said) none) in
      record {
        said = so.said;
        first = record {
          lines = so.lines ++ lines;
          outcome = first_fault old.outcome o;
          new = last.sayer;
          are_first = first;
          taken = subst (λ (t : List ℕ). AreTakenBy Takes start (so.lines ++ lines) (first_fault old.outcome o) last.sayer (so.said ++ t)) (sym is)
              (taken_both Takes start so.lines old.outcome old.sayer so.said lines o last.sayer said so.taken by);
        };
        written = so.written;
      }

  -- the first lines of a piece more
  pub piece_but : (start : S) (read new_read newer_read held new_held : Option (List ℕ)) (begun : BoundedLine) (old new : Saying S) (piece : List ℕ) → IsSaid Takes start read new_read held new_held begun old.outcome old.sayer → old.waits.items ≡ []
      → Consumes new_read newer_read piece → TakesFirst (Behind Takes) Waits piece begun old new → SaysBut Takes start read newer_read held new_held new.waits.items
  piece_but start read new_read newer_read held new_held begun old new piece so none reads takes =
      let has = takes old so.last (begun_alone Takes old begun start read new_read held new_held old.outcome old.sayer so) in
      let (rest, whole, is) = has.begins in
      lines_but start read new_read newer_read held new_held begun old has.last new (so.text ++ piece) has.lines so none (record {
        text = so.text ++ piece;
        consumed = Consumes-trans read new_read newer_read so.text piece so.consumed reads;
        first = inl (
          rest,
          whole_both so.lines has.lines so.are_whole whole,
          ap (λ (t : List ℕ). t ++ piece) so.is ∙ (append_assoc (joined so.lines) so.last piece ∙ (ap (λ (t : List ℕ). joined so.lines ++ t) is
              ∙ (sym (append_assoc (joined so.lines) (joined has.lines) rest) ∙ ap (λ (t : List ℕ). t ++ rest) (sym (joined_both so.lines has.lines))))),
        );
      }) has.taken (still_waits has.last new has.left)

  -- the last line of a stream, if it is taken
  pub last_but : (r : Result (Unit {0}) Ended) (start : S) (read new_read held new_held : Option (List ℕ)) (begun : BoundedLine) (old new : Saying S) → IsAtEnd new_read → IsSaid Takes start read new_read held new_held begun old.outcome old.sayer
      → old.waits.items ≡ [] → OnOk r ((first : Saying S) (text : List ℕ) → HasTakenLines (Behind Takes) first text begun old → (lines : List (List ℕ)) × AreLines text lines × AreTakenInTurn (Behind Takes) first lines new)
      → OnErr r ((first : Saying S) (text : List ℕ) → HasTakenLines (Behind Takes) first text begun old → HasTakenFirst (Behind Takes) Waits first text new) → SaysBut Takes start read new_read held new_held new.waits.items
  last_but (Ok u) start read new_read held new_held begun old new whole so none ends first =
      let (lines, are, turn) = ends old so.last (begun_alone Takes old begun start read new_read held new_held old.outcome old.sayer so) in
      lines_but start read new_read new_read held new_held begun old new new so.text lines so none (record {
        text = so.text;
        consumed = so.consumed;
        first = inr (whole, subst (λ (t : List ℕ). AreLines t (so.lines ++ lines)) (sym so.is) (lines_behind so.lines lines so.last so.are_whole are));
      }) turn refl
  last_but (Err e) start read new_read held new_held begun old new whole so none ends first =
      piece_but start read new_read new_read held new_held begun old new [] so none (Consumes-nil new_read)
      (λ before text has. subst (λ (t : List ℕ). HasTakenFirst (Behind Takes) Waits before t new) (sym (append-nil text)) (first before text has))

  -- what waits is written
  pub waits_written : (start : S) (read new_read held new_held newer_held : Option (List ℕ)) (waits : List ℕ) (e : Ended) → SaysBut Takes start read new_read held new_held waits → Appends new_held newer_held waits
      → WritesFirst (IsSaidToFirst Takes start read new_read) held newer_held e
  waits_written start read new_read held new_held newer_held waits e so written = (so.said ++ waits, so.first, inl (Appends-trans held new_held newer_held so.said waits so.written written))

  -- or is cut short, since the stream failed
  pub waits_cut : (start : S) (read new_read held new_held newer_held : Option (List ℕ)) (waits : List ℕ) (e : Ended) → SaysBut Takes start read new_read held new_held waits → e ≡ Stream → IsCutShort waits new_held newer_held
      → WritesFirst (IsSaidToFirst Takes start read new_read) held newer_held e
  waits_cut start read new_read held new_held newer_held waits e so failed (written, unwritten, some, is, appends) = (
    so.said ++ waits,
    so.first,
    inr (failed, (so.said ++ written, unwritten, some, ap (λ (t : List ℕ). so.said ++ t) is ∙ sym (append_assoc so.said written unwritten), Appends-trans held new_held newer_held so.said written so.written appends)),
  )
