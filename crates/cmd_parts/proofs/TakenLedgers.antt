-- Ledgers that are cut out of a stream, one after another, all of them or until that ended early.
use Rattle.std.proofs.Common.{◌≡◌, ◌≢◌, ◌⊎◌, inl, inr, ℕ, List, [], ◌∷◌, ◌++◌, Option, sym, ◌∙◌, ap, subst, refl, append_assoc, append-nil, ◌↔◌, Bool, true, false, eqb, length, take, drop, Result, Ok, Err, Some, IsTrue}
use Rattle.std.proofs.KnownBytes.{Appends-nil, Appends-trans, Consumes-nil, Consumes-trans, Consumes-kept}
use Rattle.std.specs.Io.KnownBytes.{Appends, Consumes, IsAtEnd, Keeps}
use Rattle.std.proofs.lemmas.List.Elements.{All-append, All-nil}
use Rattle.std.specs.Cmp.Lexicographic.{pointwise}
use Rattle.std.proofs.lemmas.Bool.Decides.{Decides-eqb}
use Rattle.std.proofs.lemmas.Slice.Eq.{starts_is}
use Rattle.text.specs.Terms.{joined, HasNoNewline, BeginsWithLine}
use Rattle.ledger.specs.Terms.{header_words, HasHeader, LoadGives, PeekGives, ReadsIn, Contents}
use Rattle.ledger.proofs.Feeding.{joined-append}
use Rattle.cmd_lines.specs.Terms.{AreOneLineEach}
use Rattle.cmd_parts.specs.Stream.{AreNoHeads, AreOfOne, BeginsWithLedgers, IsHead, IsWholeLedger, IsLoadedAs}
use Rattle.cmd_parts.specs.inside.Joining.{LedgersAreTaken, CutsBefore, HasTaken, HasReadLedgers, IsOfIt, TakesAll, TakesMoreLedgers, TakesLedgers, HasTakenLedgers, TakesFirstLedgers}
use Rattle.cmd_options.specs.Terms.{PrintsNothing}
use Rattle.cmd_options.specs.declared.ended.Ended.{Ended}
use Rattle.cmd_options.specs.declared.ended.Ended.TheVariants.{Stream}
use Rattle.machine_text.specs.Terms.{Packed, entry_of}
use Rattle.law_tree.specs.Terms.{InOrder}
use Rattle.ledger.specs.declared.header.Format.TheVariants.{One, Two}
use Rattle.ledger.specs.declared.loading.Left.{Left}
use Rattle.ledger.specs.declared.faults.LoadFault.{LoadFault}
use Rattle.cmd_ledgers.specs.Terms.{ended_by_load, EndsLedger}
use Rattle.cmd_ledgers.proofs.ReadLedgers.{finish_ends, load_taken}

-- Ledgers that are taken one after another as they come.
whole_push : (lines : List (List ℕ)) (line : List ℕ) → AreOneLineEach lines → HasNoNewline line → AreOneLineEach (lines ++ line ∷ [])
whole_push [] line all one = (one, tt)
whole_push (l ∷ lines) line all one = (all.0, whole_push lines line all.1 one)

no_heads_push : (lines : List (List ℕ)) (line : List ℕ) → AreNoHeads lines → (IsHead line → ⊥) → AreNoHeads (lines ++ line ∷ [])
no_heads_push [] line none other = (other, tt)
no_heads_push (l ∷ lines) line none other = (none.0, no_heads_push lines line none.1 other)

of_one_push : (lines : List (List ℕ)) (line : List ℕ) → AreOfOne lines → (IsHead line → ⊥) ⊎ (lines ≡ []) → AreOfOne (lines ++ line ∷ [])
of_one_push [] line one of = tt
of_one_push (l ∷ lines) line one (inl other) = no_heads_push lines line one other
of_one_push (l ∷ lines) line one (inr none) = absurd cc

no_lines : (lines : List (List ℕ)) → joined lines ≡ [] → lines ≡ []
no_lines [] e = refl
no_lines ([] ∷ lines) e = absurd cc
no_lines ((x ∷ xs) ∷ lines) e = absurd cc

head_more : (text more : List ℕ) → IsHead text → IsHead (text ++ more)
head_more text more (format, rest, is) = (format, rest ++ more, ap (λ (t : List ℕ). t ++ more) is ∙ append_assoc (header_words format) rest more)

pub begins_more : (text : List ℕ) (ledgers : List (List ℕ)) (rest more : List ℕ) → BeginsWithLedgers text ledgers rest → BeginsWithLedgers (text ++ more) ledgers (rest ++ more)
begins_more text [] rest more is = ap (λ (t : List ℕ). t ++ more) is
begins_more text (ledger ∷ ledgers) rest more (behind, is, whole, head, later) = (
  behind ++ more,
  ap (λ (t : List ℕ). t ++ more) is ∙ append_assoc ledger behind more,
  whole,
  head_more behind more head,
  begins_more behind ledgers rest more later,
)

-- one ledger more
begins_push : (text : List ℕ) (ledgers : List (List ℕ)) (rest ledger behind : List ℕ) → BeginsWithLedgers text ledgers rest → rest ≡ ledger ++ behind → IsWholeLedger ledger → IsHead behind
    → BeginsWithLedgers text (ledgers ++ ledger ∷ []) behind
begins_push text [] rest ledger behind is cut whole head = (behind, is ∙ cut, whole, head, refl)
begins_push text (l ∷ ledgers) rest ledger behind (b, is, w, h, later) cut whole head = (b, is, w, h, begins_push b ledgers rest ledger behind later cut whole head)

module _ {D : Type 0} (Takes : D → List ℕ → D → List ℕ → Type 0) where
  -- one ledger more is taken
  taken_push : (old : D) (ledgers : List (List ℕ)) (ledger : List ℕ) (middle new : D) (said more : List ℕ) → LedgersAreTaken Takes old ledgers middle said
      → Takes middle ledger new more → LedgersAreTaken Takes old (ledgers ++ ledger ∷ []) new (said ++ more)
  taken_push old [] ledger middle new said more so takes = (
    new,
    more,
    [],
    subst (λ (d : D). Takes d ledger new more) so.0 takes,
    (refl, refl),
    ap (λ (s : List ℕ). s ++ more) so.1 ∙ sym (append-nil more),
  )
  taken_push old (l ∷ ledgers) ledger middle new said more (d, first, others, takes_first, later, is) takes = (
    d,
    first,
    others ++ more,
    takes_first,
    taken_push d ledgers ledger middle new others more later takes,
    ap (λ (s : List ℕ). s ++ more) is ∙ append_assoc first others more,
  )

  -- nothing has come
  pub nothing_taken : (start : D) (held : Option (List ℕ)) → HasTaken Takes start held [] [] [] start held
  nothing_taken start held = record {
    whole = [];
    lines = [];
    said = [];
    begins = refl;
    is = refl;
    are_lines = tt;
    one_line = All-nil (λ byte. byte ≢ 10);
    one = tt;
    taken = (refl, refl);
    written = Appends-nil held;
  }

  -- more bytes of the same line
  pub more_taken : (start : D) (held : Option (List ℕ)) (text before line : List ℕ) (now : D) (new_held : Option (List ℕ)) (more : List ℕ)
      → HasTaken Takes start held text before line now new_held → HasNoNewline more → HasTaken Takes start held (text ++ more) before (line ++ more) now new_held
  more_taken start held text before line now new_held more so none = record {
    whole = so.whole;
    lines = so.lines;
    said = so.said;
    begins = subst (λ (r : List ℕ). BeginsWithLedgers (text ++ more) so.whole r) (append_assoc before line more) (begins_more text so.whole (before ++ line) more so.begins);
    is = so.is;
    are_lines = so.are_lines;
    one_line = All-append (λ byte. byte ≢ 10) line more so.one_line none;
    one = so.one;
    taken = so.taken;
    written = so.written;
  }

  -- what is kept is taken, where the line begins another ledger
  pub cut_taken : (start : D) (held : Option (List ℕ)) (text before line : List ℕ) (now : D) (mid : Option (List ℕ)) (new_before : List ℕ) (new : D) (new_held : Option (List ℕ))
      → HasTaken Takes start held text before line now mid → CutsBefore Takes before line now mid new_before new new_held
      → HasTaken Takes start held text new_before line new new_held × IsOfIt new_before line
  cut_taken start held text before line now mid new_before new new_held so (inl (of, same, is, kept)) = (
    subst (λ (b : List ℕ). HasTaken Takes start held text b line new new_held) (sym same)
        (subst (λ (d : D). HasTaken Takes start held text before line d new_held) (sym is)
        (subst (λ (h : Option (List ℕ)). HasTaken Takes start held text before line now h) (sym kept) so)),
    subst (λ (b : List ℕ). IsOfIt b line) (sym same) of,
  )
  cut_taken start held text before line now mid new_before new new_held so (inr (head, some, (said, takes, says), none)) = (
    subst (λ (b : List ℕ). HasTaken Takes start held text b line new new_held) (sym none) (record {
      whole = so.whole ++ before ∷ [];
      lines = [];
      said = so.said ++ said;
      begins = begins_push text so.whole (before ++ line) before line so.begins refl
          (record { lines = so.lines; some = λ empty. some (so.is ∙ ap joined empty); is = so.is; are_lines = so.are_lines; one = so.one }) head;
      is = refl;
      are_lines = tt;
      one_line = so.one_line;
      one = tt;
      taken = taken_push start so.whole before now new so.said said so.taken takes;
      written = Appends-trans held mid new_held so.said said so.written says;
    }),
    inr none,
  )

  line_is_of : (lines : List (List ℕ)) (before line : List ℕ) → before ≡ joined lines → IsOfIt before line → (IsHead line → ⊥) ⊎ (lines ≡ [])
  line_is_of lines before line is (inl other) = inl other
  line_is_of lines before line is (inr none) = inr (no_lines lines (sym is ∙ none))

  -- the newline comes, and the line is kept
  pub line_kept : (start : D) (held : Option (List ℕ)) (text before line : List ℕ) (now : D) (new_held : Option (List ℕ)) → HasTaken Takes start held text before line now new_held
      → IsOfIt before line → HasTaken Takes start held (text ++ 10 ∷ []) (before ++ line ++ 10 ∷ []) [] now new_held
  line_kept start held text before line now new_held so of = record {
    whole = so.whole;
    lines = so.lines ++ line ∷ [];
    said = so.said;
    begins = subst (λ (r : List ℕ). BeginsWithLedgers (text ++ 10 ∷ []) so.whole r) (sym (append-nil ((before ++ line) ++ (10 ∷ [])))) (begins_more text so.whole (before ++ line) (10 ∷ []) so.begins);
    is = ap (λ (b : List ℕ). (b ++ line) ++ (10 ∷ [])) so.is ∙ (append_assoc (joined so.lines) line (10 ∷ []) ∙ sym (joined-append so.lines (line ∷ [])));
    are_lines = whole_push so.lines line so.are_lines so.one_line;
    one_line = All-nil (λ byte. byte ≢ 10);
    one = of_one_push so.lines line so.one (line_is_of so.lines before line so.is of);
    taken = so.taken;
    written = so.written;
  }

  -- a whole line comes
  pub whole_line : (start : D) (held : Option (List ℕ)) (all done left part rest before line longer_line : List ℕ) (now : D) (mid : Option (List ℕ)) (new_before kept : List ℕ) (new : D) (new_held : Option (List ℕ))
      → all ≡ done ++ left → BeginsWithLine left part rest → HasTaken Takes start held done before line now mid → longer_line ≡ line ++ part
      → CutsBefore Takes before longer_line now mid new_before new new_held → kept ≡ new_before ++ longer_line ++ 10 ∷ []
      → (x : List ℕ) × (all ≡ x ++ rest) × HasTaken Takes start held x kept [] new new_held
  whole_line start held all done left part rest before line longer_line now mid new_before kept new new_held is begins so same cuts keeps =
      let longer = subst (λ (l : List ℕ). HasTaken Takes start held (done ++ part) before l now mid) (sym same)
      (more_taken start held done before line now mid part so begins.one_line) in
      let (cut, of) = cut_taken start held (done ++ part) before longer_line now mid new_before new new_held longer cuts in (
        (done ++ part) ++ 10 ∷ [],
        is ∙ ap (λ (t : List ℕ). done ++ t) begins.is ∙ sym (append_assoc done part (10 ∷ rest)) ∙ sym (append_assoc (done ++ part) (10 ∷ []) rest),
        subst (λ (k : List ℕ). HasTaken Takes start held ((done ++ part) ++ 10 ∷ []) k [] new new_held) (sym keeps) (line_kept start held (done ++ part) new_before longer_line new new_held cut of),
      )

  -- at the end of the text what is kept and the line that is begun are the last ledger
  pub last_taken : (start : D) (held : Option (List ℕ)) (text before line : List ℕ) (now : D) (mid : Option (List ℕ)) (new_before : List ℕ) (middle : D) (after : Option (List ℕ))
      (last : List ℕ) (new : D) (new_held : Option (List ℕ)) → HasTaken Takes start held text before line now mid → CutsBefore Takes before line now mid new_before middle after
      → last ≡ new_before ++ line → (said : List ℕ) × Takes middle last new said × Appends after new_held said → TakesAll Takes start held text new new_held
  last_taken start held text before line now mid new_before middle after last new new_held so cuts is (said, takes, says) =
      let (cut, of) = cut_taken start held text before line now mid new_before middle after so cuts in (
        cut.whole ++ last ∷ [],
        cut.said ++ said,
        record {
          whole = cut.whole;
          last = last;
          are_all = refl;
          begins = subst (λ (r : List ℕ). BeginsWithLedgers text cut.whole r) (sym is) cut.begins;
          is_last = record {
            lines = cut.lines;
            last = line;
            is = is ∙ ap (λ (b : List ℕ). b ++ line) cut.is;
            are_lines = cut.are_lines;
            one_line = cut.one_line;
            one = of_one_push cut.lines line cut.one (line_is_of cut.lines new_before line cut.is of);
          };
        },
        taken_push start cut.whole last middle new cut.said said cut.taken takes,
        Appends-trans held after new_held cut.said said cut.written says,
      )

  -- nothing is read yet
  pub nothing_read : (start : D) (read held : Option (List ℕ)) (before line : List ℕ) → before ≡ [] → line ≡ [] → HasReadLedgers Takes start read read held before line start held
  nothing_read start read held before line none nothing = record {
    text = [];
    consumed = Consumes-nil read;
    has = subst (λ (b : List ℕ). HasTaken Takes start held [] b line start held) (sym none)
        (subst (λ (l : List ℕ). HasTaken Takes start held [] [] l start held) (sym nothing) (nothing_taken start held));
  }

  -- a piece more is read, and taken
  pub piece_read : (start : D) (read held : Option (List ℕ)) (mid_read : Option (List ℕ)) (before line : List ℕ) (now : D) (mid : Option (List ℕ))
      (new_read : Option (List ℕ)) (new_before new_line : List ℕ) (new : D) (new_held : Option (List ℕ)) (piece : List ℕ) → HasReadLedgers Takes start read mid_read held before line now mid
      → Consumes mid_read new_read piece → TakesMoreLedgers Takes piece before line now mid new_before new_line new new_held → HasReadLedgers Takes start read new_read held new_before new_line new new_held
  piece_read start read held mid_read before line now mid new_read new_before new_line new new_held piece so reads takes = record {
    text = so.text ++ piece;
    consumed = Consumes-trans read mid_read new_read so.text piece so.consumed reads;
    has = takes start held so.text so.has;
  }

  -- and the end
  pub stream_taken : (start : D) (read held : Option (List ℕ)) (mid_read : Option (List ℕ)) (before line : List ℕ) (now : D) (mid : Option (List ℕ))
      (new_read : Option (List ℕ)) (new : D) (new_held : Option (List ℕ)) → HasReadLedgers Takes start read mid_read held before line now mid → Consumes mid_read new_read [] → IsAtEnd new_read
      → ((first : D) (begun : Option (List ℕ)) (text : List ℕ) → HasTaken Takes first begun text before line now mid → TakesAll Takes first begun text new new_held)
      → TakesLedgers Takes start new read new_read held new_held
  stream_taken start read held mid_read before line now mid new_read new new_held so reads ends takes = record {
    text = so.text ++ [];
    consumed = Consumes-trans read mid_read new_read so.text [] so.consumed reads;
    whole = ends;
    takes = subst (λ (t : List ℕ). TakesAll Takes start held t new new_held) (sym (append-nil so.text)) (takes start held so.text so.has);
  }

  -- the rest of a piece has no newline
  pub rest_taken : (start : D) (held : Option (List ℕ)) (all done left part before line longer_line : List ℕ) (now : D) (mid : Option (List ℕ)) → all ≡ done ++ left → HasNoNewline left × (part ≡ left)
      → HasTaken Takes start held done before line now mid → longer_line ≡ line ++ part → HasTaken Takes start held all before longer_line now mid
  rest_taken start held all done left part before line longer_line now mid is (none, same) so longer =
      subst (λ (t : List ℕ). HasTaken Takes start held t before longer_line now mid) (sym is)
      (subst (λ (l : List ℕ). HasTaken Takes start held (done ++ left) before l now mid) (sym (longer ∙ ap (λ (p : List ℕ). line ++ p) same)) (more_taken start held done before line now mid left so none))

-- Ledgers of which the first were taken, where that ended early.

-- what was said before stays said
pub said_still : (held mid new_held : Option (List ℕ)) (said : List ℕ) (e : Ended) → Appends held mid said → PrintsNothing e mid new_held → Appends held new_held said ⊎ (e ≡ Stream)
said_still held mid new_held said e so (inl same) = inl (subst (λ (h : Option (List ℕ)). Appends held h said) (sym same) so)
said_still held mid new_held said e so (inr stream) = inr stream

module _ {D : Type 0} (Takes : D → List ℕ → D → List ℕ → Type 0) where
  -- what stands before the rest of a text was taken, and then the taking ended
  pub first_taken : (start : D) (held : Option (List ℕ)) (all done left before line : List ℕ) (now : D) (mid new_held : Option (List ℕ)) (e : Ended) → all ≡ done ++ left
      → HasTaken Takes start held done before line now mid → PrintsNothing e mid new_held → HasTakenLedgers Takes start held all e new_held
  first_taken start held all done left before line now mid new_held e is so nothing = record {
    ledgers = so.whole;
    rest = (before ++ line) ++ left;
    begins = subst (λ (t : List ℕ). BeginsWithLedgers t so.whole ((before ++ line) ++ left)) (sym is) (begins_more done so.whole (before ++ line) left so.begins);
    now = now;
    said = so.said;
    taken = so.taken;
    written = said_still held mid new_held so.said e so.written nothing;
  }

  -- a line that was whole wasn't kept
  pub whole_line_taken : (start : D) (held : Option (List ℕ)) (all done left part rest before line longer_line : List ℕ) (now : D) (mid : Option (List ℕ)) (new_before : List ℕ) (new : D) (new_held : Option (List ℕ)) (e : Ended)
      → all ≡ done ++ left → BeginsWithLine left part rest → HasTaken Takes start held done before line now mid → longer_line ≡ line ++ part
      → CutsBefore Takes before longer_line now mid new_before new new_held → HasTakenLedgers Takes start held all e new_held
  whole_line_taken start held all done left part rest before line longer_line now mid new_before new new_held e is begins so same cuts =
      let longer = subst (λ (l : List ℕ). HasTaken Takes start held (done ++ part) before l now mid) (sym same) (more_taken Takes start held done before line now mid part so begins.one_line) in
      let (cut, of) = cut_taken Takes start held (done ++ part) before longer_line now mid new_before new new_held longer cuts in
      first_taken start held all (done ++ part) (10 ∷ rest) new_before longer_line new new_held new_held e (is ∙ ap (λ (t : List ℕ). done ++ t) begins.is ∙ sym (append_assoc done part (10 ∷ rest))) cut (inl refl)

  -- at the end of a text
  pub all_but_last : (start : D) (held : Option (List ℕ)) (text before line : List ℕ) (now : D) (mid new_held : Option (List ℕ)) (e : Ended) → HasTaken Takes start held text before line now mid → PrintsNothing e mid new_held
      → HasTakenLedgers Takes start held text e new_held
  all_but_last start held text before line now mid new_held e so nothing = first_taken start held text text [] before line now mid new_held e (sym (append-nil text)) so nothing

  pub last_cut : (start : D) (held : Option (List ℕ)) (text before line : List ℕ) (now : D) (mid : Option (List ℕ)) (new_before : List ℕ) (new : D) (after new_held : Option (List ℕ)) (e : Ended)
      → HasTaken Takes start held text before line now mid → CutsBefore Takes before line now mid new_before new after → PrintsNothing e after new_held → HasTakenLedgers Takes start held text e new_held
  last_cut start held text before line now mid new_before new after new_held e so cuts nothing =
      all_but_last start held text new_before line new after new_held e (cut_taken Takes start held text before line now mid new_before new after so cuts).0 nothing

  -- so far as a reader was read
  pub read_first : (start : D) (read mid_read new_read held : Option (List ℕ)) (before line : List ℕ) (now : D) (mid : Option (List ℕ)) (e : Ended) → HasReadLedgers Takes start read mid_read held before line now mid → Keeps mid_read new_read
      → TakesFirstLedgers Takes start read new_read held e mid
  read_first start read mid_read new_read held before line now mid e so kept = record {
    text = so.text;
    consumed = Consumes-kept read mid_read new_read so.text so.consumed kept;
    first = all_but_last start held so.text before line now mid mid e so.has (inl refl);
  }

  pub piece_first : (start : D) (read mid_read new_read held : Option (List ℕ)) (before line : List ℕ) (now : D) (mid new_held : Option (List ℕ)) (piece : List ℕ) (e : Ended) → HasReadLedgers Takes start read mid_read held before line now mid
      → Consumes mid_read new_read piece → ((first : D) (begun : Option (List ℕ)) (text : List ℕ) → HasTaken Takes first begun text before line now mid → HasTakenLedgers Takes first begun (text ++ piece) e new_held)
      → TakesFirstLedgers Takes start read new_read held e new_held
  piece_first start read mid_read new_read held before line now mid new_held piece e so reads takes = record {
    text = so.text ++ piece;
    consumed = Consumes-trans read mid_read new_read so.text piece so.consumed reads;
    first = takes start held so.text so.has;
  }

  pub end_first : (start : D) (read mid_read new_read held : Option (List ℕ)) (before line : List ℕ) (now : D) (mid new_held : Option (List ℕ)) (e : Ended) → HasReadLedgers Takes start read mid_read held before line now mid
      → Consumes mid_read new_read [] → ((first : D) (begun : Option (List ℕ)) (text : List ℕ) → HasTaken Takes first begun text before line now mid → HasTakenLedgers Takes first begun text e new_held)
      → TakesFirstLedgers Takes start read new_read held e new_held
  end_first start read mid_read new_read held before line now mid new_held e so reads takes =
      piece_first start read mid_read new_read held before line now mid new_held [] e so reads
      (λ first begun text has. subst (λ (t : List ℕ). HasTakenLedgers Takes first begun t e new_held) (sym (append-nil text)) (takes first begun text has))

-- Texts that begin as a header does, and what they are loaded as.

-- a text begins by the first version's words
pub one_begins : (text : List ℕ) (r : Bool) → r ≡ pointwise eqb (header_words One) (take (length (header_words One)) text) → r ≡ true → IsTrue r ↔ IsHead text
one_begins text r is holds = (λ h. (One, drop (length (header_words One)) text, (starts_is Decides-eqb text (header_words One) r is).0 holds), λ h. holds)

head_is : (text : List ℕ) (r s : Bool) → r ≡ pointwise eqb (header_words One) (take (length (header_words One)) text) → r ≡ false
    → s ≡ pointwise eqb (header_words Two) (take (length (header_words Two)) text) → IsHead text → s ≡ true
head_is text r s is fails past (One, rest, begins) = let holds = (starts_is Decides-eqb text (header_words One) r is).1 rest begins in absurd (cc)
head_is text r s is fails past (Two, rest, begins) = (starts_is Decides-eqb text (header_words Two) s past).1 rest begins

-- or by the second one's, or by none
pub two_begins : (text : List ℕ) (r s : Bool) → r ≡ pointwise eqb (header_words One) (take (length (header_words One)) text) → r ≡ false
    → s ≡ pointwise eqb (header_words Two) (take (length (header_words Two)) text) → IsTrue s ↔ IsHead text
two_begins text r s is fails past = (
  λ holds. (Two, drop (length (header_words Two)) text, (starts_is Decides-eqb text (header_words Two) s past).0 holds),
  head_is text r s is fails past,
)

-- what is loaded with the root that a text names
pub loaded_as : (text : List ℕ) (root : Packed) (loaded : Contents × Left) → PeekGives text (Ok (Some root)) → LoadGives root text (Ok loaded) → IsLoadedAs text loaded.0 loaded.1
loaded_as text root loaded ((rest, header), order) gives = record {
  reads = subst (λ (p : Packed). ReadsIn loaded.0.format p text loaded.0.records loaded.1) (sym gives.0) (load_taken text root loaded (root, rest, header) gives);
  order = subst (λ (p : Packed). (u : ℕ) × InOrder u (entry_of p)) (sym gives.0) order;
}

-- or why nothing is
pub not_loaded : (text : List ℕ) (root : Packed) (fault : LoadFault) (e : Ended) → PeekGives text (Ok (Some root)) → LoadGives root text (Err fault) → e ≡ ended_by_load fault → EndsLedger text e
not_loaded text root fault e ((rest, header), order) gives is =
    subst (λ (x : Ended). EndsLedger text x) (sym (is ∙ finish_ends text root rest fault header gives)) (root, rest, header, order)
