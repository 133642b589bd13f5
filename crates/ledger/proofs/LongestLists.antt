-- The longest list of records of a text, and of one that begins it.
use Rattle.std.proofs.Common.{◌≡◌, ℕ, ◌+◌, ◌-◌, ◌≤◌, List, [], ◌∷◌, ◌++◌, length, inl, inr, ◌⊎◌, refl, sym, ap, ◌∙◌, subst, arith, append_assoc, length-append, Result, Ok, Err, append-nil}
use Rattle.std.proofs.lemmas.List.{append_cancel_left}
use Rattle.machine_text.specs.Terms.{Packed, IsTable, table_of}
use Rattle.cert.specs.Terms.{Recorded, MayOverflow}
use Rattle.text.specs.Terms.{joined, HasNoNewline, BeginsWithLine}
use Rattle.ledger.specs.LedgerText.{header_words, HasHeader, AreTaken, IsUnkept, IsUnkeptLine, IsLeft, ReadsAs, ledger_record}
use Rattle.ledger.specs.declared.header.Format.{Format}
use Rattle.ledger.specs.Lists.{ReadsAsFirst, BeginsToOverflow, IsLongest, IsFitAfter, AreKept, held, Offer, AreOffered, answered, answered_with, AreFitLines}
use Rattle.ledger.specs.declared.loading.Left.{Left}
use Rattle.ledger.specs.declared.loading.Left.TheVariants.{Nothing, From}
use Rattle.ledger.specs.declared.loading.Unkept.{Unkept}
use Rattle.ledger.specs.declared.loading.Unkept.TheVariants.{Torn, Unread, Unfit, Repeated}
use Rattle.ledger.proofs.HeaderLaws.{one_format}
use Rattle.text.proofs.Cuts.{cases_line, same_line, same_cut, line_has_newline}
use Rattle.ledger.specs.Records.{IsFit, Resolves}
use Rattle.ledger.specs.Offers.{OfferGives}
use Rattle.ledger.specs.declared.faults.Taken.{Taken}
use Rattle.ledger.specs.declared.faults.Taken.TheVariants.{New, Known, Settled}
use Rattle.ledger.specs.declared.faults.OfferFault.{OfferFault}
use Rattle.ledger.specs.declared.faults.OfferFault.TheVariants.{WrongSize, NotOpen, Refused as IsRefused, NoMemory}
use Rattle.ledger.proofs.Agreement.{Agree, agree_none, agree_new, agree_settled, new_fit, settling_fit, fit_now, fit_or_known, fit_or_refused}

-- A beginning of a text that is read as records is read as the records of the first of its lines.

-- nothing of the text is kept: it is empty, or there is a reason
abbrev pub EndsAt : Format → Packed → List Recorded → List ℕ → Type 0
EndsAt format root rs rest = (rest ≡ []) ⊎ ((why : Unkept) × IsUnkept format root rs rest why)

ends_torn : (format : Format) (root : Packed) (rs : List Recorded) (text : List ℕ) → HasNoNewline text → EndsAt format root rs text
ends_torn format root rs [] none = inl refl
ends_torn format root rs (byte ∷ text) none = inr (Torn, (none, λ e. cc))

-- a line that isn't kept still stands at the beginning of a beginning that has a line
same_reason : (format : Format) (root : Packed) (rs : List Recorded) (rest start line after after' : List ℕ) (why : Unkept)
    → BeginsWithLine start line after → BeginsWithLine rest line after' → IsUnkept format root rs rest why → IsUnkept format root rs start why
same_reason format root rs rest start line after after' Torn begins begins' is = absurd (line_has_newline begins' is.0)
same_reason format root rs rest start line after after' (Unread f) begins begins' is =
    (line, after, begins, subst (λ (l : List ℕ). IsUnkeptLine format root rs l (Unread f)) (same_line is.2 begins').0 is.3)
same_reason format root rs rest start line after after' (Unfit f) begins begins' is =
    (line, after, begins, subst (λ (l : List ℕ). IsUnkeptLine format root rs l (Unfit f)) (same_line is.2 begins').0 is.3)
same_reason format root rs rest start line after after' Repeated begins begins' is =
    (line, after, begins, subst (λ (l : List ℕ). IsUnkeptLine format root rs l Repeated) (same_line is.2 begins').0 is.3)

longer : (start line after tail : List ℕ) → BeginsWithLine start line after → BeginsWithLine (start ++ tail) line (after ++ tail)
longer start line after tail begins = record {
  is = ap (λ l. l ++ tail) begins.is ∙ append_assoc line (10 ∷ after) tail;
  one_line = begins.one_line;
}

nil_before : (start tail : List ℕ) → [] ≡ start ++ tail → start ≡ []
nil_before [] tail e = refl
nil_before (x ∷ start) tail e = cc

ends_sooner : (format : Format) (root : Packed) (rs : List Recorded) (rest start tail : List ℕ) → rest ≡ start ++ tail → EndsAt format root rs rest → EndsAt format root rs start
ends_sooner format root rs rest start tail is ends = elim (cases_line start) [
  | inl none ↦ ends_torn format root rs start none
  | inr w ↦ elim ends [
    | inl e ↦ inl (nil_before start tail (sym e ∙ is))
    | inr u ↦ inr (u.0, same_reason format root rs rest start w.0 w.1 (w.1 ++ tail) u.0 w.2 (subst (λ (l : List ℕ). BeginsWithLine l w.0 (w.1 ++ tail)) (sym is) (longer start w.0 w.1 tail w.2)) u.1)
  ]
]

-- what is kept of a beginning of a body
record KeepsFirst (format : Format) (root : Packed) (old : List Recorded) (lines : List (List ℕ)) (start : List ℕ) : Type 0 where
  kept : List (List ℕ)
  others : List (List ℕ)
  first : lines ≡ kept ++ others
  rest : List ℕ
  new : List Recorded
  is : start ≡ joined kept ++ rest
  taken : AreTaken format root old kept new
  ends : EndsAt format root new rest

keeps_first : (format : Format) (root : Packed) (old new : List Recorded) (lines : List (List ℕ)) (rest start tail : List ℕ) → AreTaken format root old lines new → EndsAt format root new rest
    → joined lines ++ rest ≡ start ++ tail → KeepsFirst format root old lines start
keeps_first format root old new [] rest start tail taken ends is = record {
  kept = [];
  others = [];
  first = refl;
  rest = start;
  new = old;
  is = refl;
  taken = refl;
  ends = ends_sooner format root old rest start tail is (subst (λ (l : List Recorded). EndsAt format root l rest) taken ends);
}
keeps_first format root old new (line ∷ lines) rest start tail taken ends is = elim (cases_line start) [
  | inl none ↦ record {
    kept = [];
    others = line ∷ lines;
    first = refl;
    rest = start;
    new = old;
    is = refl;
    taken = refl;
    ends = ends_torn format root old start none;
  }
  | inr w ↦
      let whole : line ++ (10 ∷ (joined lines ++ rest)) ≡ w.0 ++ (10 ∷ (w.1 ++ tail)) =
      sym (append_assoc line (10 ∷ joined lines) rest) ∙ (is ∙ (longer start w.0 w.1 tail w.2).is) in
      let same = same_cut line w.0 (joined lines ++ rest) (w.1 ++ tail) taken.2 w.2.one_line whole in
      let later = keeps_first format root taken.1 new lines rest w.1 tail taken.5 ends same.1 in
      record {
        kept = line ∷ later.kept;
        others = later.others;
        first = ap (λ (l : List (List ℕ)). line ∷ l) later.first;
        rest = later.rest;
        new = later.new;
        is = w.2.is ∙ (ap (λ l. l ++ (10 ∷ w.1)) (sym same.0) ∙ (ap (λ l. line ++ (10 ∷ l)) later.is ∙ sym (append_assoc line (10 ∷ joined later.kept) later.rest)));
        taken = (taken.0, taken.1, taken.2, taken.3, taken.4, later.taken);
        ends = later.ends;
      }
]

-- the same as the code says it
pub ends_by : (format : Format) (root : Packed) (rs : List Recorded) (n number : ℕ) (rest : List ℕ) (left : Left) → IsLeft format root rs n number rest left → EndsAt format root rs rest
ends_by format root rs n number rest Nothing is = inl is
ends_by format root rs n number rest (From line kept why) is = inr (why, is.2)

left_by : (format : Format) (root : Packed) (rs : List Recorded) (n number : ℕ) (rest : List ℕ) → length rest ≤ n → EndsAt format root rs rest → (left : Left) × IsLeft format root rs n number rest left
left_by format root rs n number rest within (inl e) = (Nothing, e)
left_by format root rs n number rest within (inr u) = (From number (n - length rest) u.0, (refl, omega arith, u.1))

pub beginning : (root : Packed) (text start tail body : List ℕ) (rs : List Recorded) (left : Left) (stands : ReadsAs root text rs left) → text ≡ start ++ tail
    → HasHeader start root body → ReadsAsFirst root start stands.keeps.lines
beginning root text start tail body rs left stands is header =
    let keeps = stands.keeps in
    let words = header_words header.format ++ header.name in
    let line : BeginsWithLine text words (body ++ tail) = subst (λ (l : List ℕ). BeginsWithLine l words (body ++ tail)) (sym is) (longer start words body tail header.line) in
    let lines = same_line stands.header.line line in
    let same : stands.body ≡ body ++ tail = lines.1 in
    let format = header.format in
    let one : stands.header.format ≡ format = one_format stands.header.format format stands.header.name header.name lines.0 in
    let taken = subst (λ (f : Format). AreTaken f root [] keeps.lines rs) one keeps.taken in
    let ends = subst (λ (f : Format). EndsAt f root rs keeps.rest) one (ends_by stands.header.format root rs _ _ keeps.rest left keeps.ends) in
    let found = keeps_first format root [] rs keeps.lines keeps.rest body tail taken ends (sym keeps.is ∙ same) in
    let within : length found.rest ≤ length start =
    omega (arith, ap length header.line.is, length-append words (10 ∷ body), ap length found.is, length-append (joined found.kept) found.rest) in
    let over = left_by format root found.new (length start) (length found.kept + 2) found.rest within found.ends in
    record {
      rs = found.new;
      left = over.0;
      reads = record {
        body = body;
        header = header;
        keeps = record { lines = found.kept; rest = found.rest; is = found.is; taken = found.taken; ends = over.1 };
      };
      others = found.others;
      first = found.first;
    }

-- The records of a list of offers, and of a text, are those held of the fit ones; a text has one longest list of them.

-- one offer, whose answer is followed by others
one_offer : (root : Packed) (ks rs mid new rest : List Recorded) (r : Recorded) (said : Result Taken OfferFault) → IsTable root → Agree root ks rs → OfferGives root rs r said mid
    → ((more : List Recorded) → Agree root more mid → (kept : List Recorded) × AreKept root more rest kept × (new ≡ held kept))
    → (kept : List Recorded) × AreKept root ks (answered_with r said rest) kept × (new ≡ held kept)
one_offer root ks rs mid new rest r (Ok New) table agree gives later =
    let w = later (ks ++ (r ∷ [])) (subst (Agree root (ks ++ (r ∷ []))) (sym gives.1) (agree_new root ks rs r agree gives.0)) in
    (w.0, inl (new_fit root ks rs r agree gives.0, w.1), w.2)
one_offer root ks rs mid new rest r (Ok Settled) table agree gives later =
    let w = later (ks ++ (r ∷ [])) (subst (Agree root (ks ++ (r ∷ []))) (sym gives.1) (agree_settled root ks rs r agree gives.0)) in
    (w.0, inl (settling_fit root ks rs r agree gives.0, w.1), w.2)
one_offer root ks rs mid new rest r (Ok Known) table agree gives later =
    let w = later ks (subst (Agree root ks) (sym gives.1) agree) in
    (w.0, inr (λ fit. absurd (fit_or_known root rs r (fit_now root ks rs r agree fit) gives.0), w.1), w.2)
one_offer root ks rs mid new rest r (Err NoMemory) table agree gives later = later ks (subst (Agree root ks) (sym gives.1) agree)
one_offer root ks rs mid new rest r (Err WrongSize) table agree gives later =
    let w = later ks (subst (Agree root ks) (sym gives.1) agree) in
    (w.0, inr (λ fit. fit_or_refused root rs r WrongSize mid table agree.is_held (fit_now root ks rs r agree fit) gives (λ e. cc), w.1), w.2)
one_offer root ks rs mid new rest r (Err NotOpen) table agree gives later =
    let w = later ks (subst (Agree root ks) (sym gives.2) agree) in
    (w.0, inr (λ fit. fit_or_refused root rs r NotOpen mid table agree.is_held (fit_now root ks rs r agree fit) gives (λ e. cc), w.1), w.2)
one_offer root ks rs mid new rest r (Err (IsRefused f)) table agree gives later =
    let w = later ks (subst (Agree root ks) (sym gives.2) agree) in
    (w.0, inr (λ fit. fit_or_refused root rs r (IsRefused f) mid table agree.is_held (fit_now root ks rs r agree fit) gives (λ e. cc), w.1), w.2)

all_offers : (root : Packed) (ks rs new : List Recorded) (os : List Offer) → IsTable root → Agree root ks rs → AreOffered root rs os new
    → (kept : List Recorded) × AreKept root ks (answered os) kept × (new ≡ held kept)
all_offers root ks rs new [] table agree offered = (ks, refl, offered ∙ agree.is)
all_offers root ks rs new (o ∷ os) table agree offered =
    one_offer root ks rs offered.0 new (answered os) o.offered o.answer table agree offered.1 (λ more then. all_offers root more offered.0 new os table then offered.2)

pub offers_are_held : (root : Packed) (os : List Offer) (new : List Recorded) → IsTable root → AreOffered root [] os new
    → (kept : List Recorded) × AreKept root [] (answered os) kept × (new ≡ held kept)
offers_are_held root os new table offered = all_offers root [] [] new os table (agree_none root) offered

-- lines that are taken are fit
fit_lines : (format : Format) (root : Packed) (ks rs new : List Recorded) (lines : List (List ℕ)) → Agree root ks rs → AreTaken format root rs lines new
    → (kept : List Recorded) × AreFitLines format root ks lines kept × (new ≡ held kept)
fit_lines format root ks rs new [] agree taken = (ks, refl, taken ∙ agree.is)
fit_lines format root ks rs new (line ∷ lines) agree taken = elim taken.4 [
  | inl w ↦
      let later = fit_lines format root (ks ++ (taken.0 ∷ [])) taken.1 new lines (subst (Agree root (ks ++ (taken.0 ∷ []))) (sym w.1) (agree_new root ks rs taken.0 agree w.0)) taken.5 in
      (later.0, (taken.0, taken.2, taken.3, new_fit root ks rs taken.0 agree w.0, later.1), later.2)
  | inr w ↦
      let later = fit_lines format root (ks ++ (taken.0 ∷ [])) taken.1 new lines (subst (Agree root (ks ++ (taken.0 ∷ []))) (sym w.1) (agree_settled root ks rs taken.0 agree w.0)) taken.5 in
      (later.0, (taken.0, taken.2, taken.3, settling_fit root ks rs taken.0 agree w.0, later.1), later.2)
]

-- where nothing more is kept, no line is fit, but one whose check may overflow
one_read : (format : Format) (line line' : List ℕ) (r r' : Recorded) → line ≡ line' → ledger_record format line ≡ Ok r → ledger_record format line' ≡ Ok r' → r ≡ r'
one_read format line line' r r' same is is' = let e = ap (ledger_record format) same in cc

stuck : (format : Format) (root : Packed) (ks rs : List Recorded) (rest line after : List ℕ) (r : Recorded) (why : Unkept) → IsTable root → Agree root ks rs → BeginsWithLine rest line after
    → ledger_record format line ≡ Ok r → IsFitAfter root ks r → IsUnkept format root rs rest why → MayOverflow r.claim r.table
stuck format root ks rs rest line after r Torn table agree begins reads fit is = absurd (line_has_newline begins is.0)
stuck format root ks rs rest line after r (Unread f) table agree begins reads fit is = let same = ap (ledger_record format) (same_line begins is.2).0 in let bad = is.3 in absurd (cc)
stuck format root ks rs rest line after r (Unfit f) table agree begins reads fit is =
    let w = is.3.1 in
    let same : r ≡ w.0 = one_read format line is.0 r w.0 (same_line begins is.2).0 reads w.1 in
    subst (λ (x : Recorded). MayOverflow x.claim x.table) (sym same)
    (fit_or_refused root rs w.0 f rs table agree.is_held (subst (λ (x : Recorded). IsFit root rs x ⊎ Resolves rs x) same (fit_now root ks rs r agree fit)) w.2 is.3.0)
stuck format root ks rs rest line after r Repeated table agree begins reads fit is =
    let w = is.3 in
    let same : r ≡ w.0 = one_read format line is.0 r w.0 (same_line begins is.2).0 reads w.1 in
    absurd (fit_or_known root rs w.0 (subst (λ (x : Recorded). IsFit root rs x ⊎ Resolves rs x) same (fit_now root ks rs r agree fit)) w.2.0)

-- any list of whole lines that are fit in their turn is a beginning of those that are taken up to such an end, unless the
-- check of the next record may overflow
begins_all : (format : Format) (root : Packed) (ks rs new : List Recorded) (lines : List (List ℕ)) (rest : List ℕ) (others : List (List ℕ)) (rest' : List ℕ) (kept : List Recorded) → IsTable root
    → Agree root ks rs → AreTaken format root rs lines new → EndsAt format root new rest → joined lines ++ rest ≡ joined others ++ rest' → AreFitLines format root ks others kept
    → ((more : List (List ℕ)) × (lines ≡ others ++ more)) ⊎ BeginsToOverflow format rest
begins_all format root ks rs new lines rest [] rest' kept table agree taken ends is fit = inl (lines, refl)
begins_all format root ks rs new [] rest (other ∷ others) rest' kept table agree taken ends is fit =
    let begins : BeginsWithLine rest other (joined others ++ rest') = record { is = is ∙ append_assoc other (10 ∷ joined others) rest'; one_line = fit.1 } in
    elim ends [
      | inl none ↦ let front = sym none ∙ begins.is in absurd (no_line other (joined others ++ rest') front)
      | inr u ↦ inr (record {
        line = other;
        after = joined others ++ rest';
        begins = begins;
        r = fit.0;
        reads = fit.2;
        may_overflow = stuck format root ks rs rest other (joined others ++ rest') fit.0 u.0 table agree begins fit.2 fit.3 (subst (λ (l : List Recorded). IsUnkept format root l rest u.0) taken u.1);
      })
    ]
  where
    no_line : (line more : List ℕ) → [] ≡ line ++ (10 ∷ more) → ⊥
    no_line [] more e = cc
    no_line (x ∷ xs) more e = cc
begins_all format root ks rs new (line ∷ lines) rest (other ∷ others) rest' kept table agree taken ends is fit =
    let whole : line ++ (10 ∷ (joined lines ++ rest)) ≡ other ++ (10 ∷ (joined others ++ rest')) =
    sym (append_assoc line (10 ∷ joined lines) rest) ∙ (is ∙ append_assoc other (10 ∷ joined others) rest') in
    let same = same_cut line other (joined lines ++ rest) (joined others ++ rest') taken.2 fit.1 whole in
    let one : taken.0 ≡ fit.0 = one_read format line other taken.0 fit.0 same.0 taken.3 fit.2 in
    let under : AreFitLines format root (ks ++ (taken.0 ∷ [])) others kept = subst (λ (x : Recorded). AreFitLines format root (ks ++ (x ∷ [])) others kept) (sym one) fit.4 in
    let then : Agree root (ks ++ (taken.0 ∷ [])) taken.1 = elim taken.4 [
      | inl w ↦ subst (Agree root (ks ++ (taken.0 ∷ []))) (sym w.1) (agree_new root ks rs taken.0 agree w.0)
      | inr w ↦ subst (Agree root (ks ++ (taken.0 ∷ []))) (sym w.1) (agree_settled root ks rs taken.0 agree w.0)
    ] in
    elim (begins_all format root (ks ++ (taken.0 ∷ [])) taken.1 new lines rest others rest' kept table then taken.5 ends same.1 under) [
      | inl later ↦ inl (later.0, ap (λ (l : List ℕ). l ∷ lines) same.0 ∙ ap (λ (l : List (List ℕ)). other ∷ l) later.1)
      | inr overflows ↦ inr overflows
    ]

-- such lines of a text's body begin those that are kept of it
begins_kept : (root : Packed) (text : List ℕ) (rs : List Recorded) (left : Left) → IsTable root → (reads : ReadsAs root text rs left) → (others : List (List ℕ)) (rest : List ℕ) (kept : List Recorded) →
    reads.body ≡ joined others ++ rest → AreFitLines reads.header.format root [] others kept
    → ((more : List (List ℕ)) × (reads.keeps.lines ≡ others ++ more)) ⊎ BeginsToOverflow reads.header.format reads.keeps.rest
begins_kept root text rs left table reads others rest kept is fit =
    let keeps = reads.keeps in
    let format = reads.header.format in
    begins_all format root [] [] rs keeps.lines keeps.rest others rest kept table (agree_none root) keeps.taken (ends_by format root rs _ _ keeps.rest left keeps.ends) (sym keeps.is ∙ is) fit

pub longest : (root : Packed) (text : List ℕ) (rs : List Recorded) (left : Left) → IsTable root → (reads : ReadsAs root text rs left) → IsLongest reads.header.format root reads.body reads.keeps.lines rs
longest root text rs left table reads =
    let found = fit_lines reads.header.format root [] [] rs reads.keeps.lines (agree_none root) reads.keeps.taken in
    record {
      kept = found.0;
      fit = found.1;
      records = found.2;
      longest = λ others rest kept is fit. elim (begins_kept root text rs left table reads others rest kept is fit) [
        | inl more ↦ inl more
        | inr overflows ↦ inr (reads.keeps.rest, reads.keeps.is, overflows)
      ];
    }

-- so there is one such list
nothing_more : (xs ys more less : List (List ℕ)) → xs ≡ ys ++ more → ys ≡ xs ++ less → xs ≡ ys
nothing_more xs ys [] less is back = is ∙ append-nil ys
nothing_more xs ys (x ∷ more) less is back = absurd (omega (arith, ap length is, length-append ys (x ∷ more), ap length back, length-append xs less))

one_kept : (format : Format) (root : Packed) (ks : List Recorded) (lines : List (List ℕ)) (a b : List Recorded) → AreFitLines format root ks lines a → AreFitLines format root ks lines b → a ≡ b
one_kept format root ks [] a b fit fit' = fit ∙ sym fit'
one_kept format root ks (line ∷ lines) a b fit fit' =
    let same : fit'.0 ≡ fit.0 = one_read format line line fit'.0 fit.0 refl fit'.2 fit.2 in
    one_kept format root (ks ++ (fit.0 ∷ [])) lines a b fit.4 (subst (λ (x : Recorded). AreFitLines format root (ks ++ (x ∷ [])) lines b) same fit'.4)

one_root : (text : List ℕ) (root other : Packed) (body body' : List ℕ) → (header : HasHeader text root body) → (header' : HasHeader text other body')
    → (root ≡ other) × (body ≡ body') × (header.format ≡ header'.format)
one_root text root other body body' header header' =
    let line = same_line header.line header'.line in
    let format = one_format header.format header'.format header.name header'.name line.0 in
    let words : header_words header.format ++ header.name ≡ header_words header.format ++ header'.name =
    line.0 ∙ ap (λ (f : Format). header_words f ++ header'.name) (sym format) in
    let name : header.name ≡ header'.name = append_cancel_left (header_words header.format) header.name header'.name words in
    let reads = header.reads in
    let reads' = header'.reads in
    let same = ap table_of name in
    (cc, line.1, format)

-- the records that two readings of a text come to, unless one of them ends before a record whose check may overflow
abbrev pub AreOne : (root other : Packed) (text : List ℕ) (rs rs' : List Recorded) (left left' : Left) → ReadsAs root text rs left → ReadsAs other text rs' left' → Type 0
AreOne root other text rs rs' left left' reads reads' =
    (rs ≡ rs') ⊎ (BeginsToOverflow reads.header.format reads.keeps.rest ⊎ BeginsToOverflow reads'.header.format reads'.keeps.rest)

one_of_root : (root : Packed) (text : List ℕ) (rs rs' : List Recorded) (left left' : Left) → IsTable root → (reads : ReadsAs root text rs left) → (reads' : ReadsAs root text rs' left')
    → AreOne root root text rs rs' left left' reads reads'
one_of_root root text rs rs' left left' table reads reads' =
    let (same, bodies, formats) = one_root text root root reads.body reads'.body reads.header reads'.header in
    let a = longest root text rs left table reads in
    let b = longest root text rs' left' table reads' in
    let lines = reads.keeps.lines in
    let lines' = reads'.keeps.lines in
    let fit_there : AreFitLines reads.header.format root [] lines' b.kept = subst (λ (f : Format). AreFitLines f root [] lines' b.kept) (sym formats) b.fit in
    let fit_here : AreFitLines reads'.header.format root [] lines a.kept = subst (λ (f : Format). AreFitLines f root [] lines a.kept) formats a.fit in
    elim (begins_kept root text rs left table reads lines' reads'.keeps.rest b.kept (bodies ∙ reads'.keeps.is) fit_there) [
      | inr overflows ↦ inr (inl overflows)
      | inl more ↦ elim (begins_kept root text rs' left' table reads' lines reads.keeps.rest a.kept (sym bodies ∙ reads.keeps.is) fit_here) [
        | inr overflows ↦ inr (inr overflows)
        | inl less ↦
            let same_lines : lines ≡ lines' = nothing_more lines lines' more.0 less.0 more.1 less.1 in
            let fit = subst (λ (l : List (List ℕ)). AreFitLines reads.header.format root [] l a.kept) same_lines a.fit in
            inl (a.records ∙ (ap held (one_kept reads.header.format root [] lines' a.kept b.kept fit fit_there) ∙ sym b.records))
      ]
    ]

pub reads_as_one : (root other : Packed) (text : List ℕ) (rs rs' : List Recorded) (left left' : Left) → IsTable root → (reads : ReadsAs root text rs left) → (reads' : ReadsAs other text rs' left')
    → (root ≡ other) × AreOne root other text rs rs' left left' reads reads'
reads_as_one root other text rs rs' left left' table reads reads' =
    let same = (one_root text root other reads.body reads'.body reads.header reads'.header).0 in
    let at_root : (reads' : ReadsAs root text rs' left') → AreOne root root text rs rs' left left' reads reads' = one_of_root root text rs rs' left left' table reads in
    (same, subst (λ (p : Packed). (reads' : ReadsAs p text rs' left') → AreOne root p text rs rs' left left' reads reads') same at_root reads')

pub reads_in_one : (root other : Packed) (text : List ℕ) (rs rs' : List Recorded) (left left' : Left) → (reads : ReadsAs root text rs left) → (same : ReadsAs other text rs' left')
    → reads.header.format ≡ same.header.format
reads_in_one root other text rs rs' left left' reads same = (one_root text root other reads.body same.body reads.header same.header).2
