-- A ledger stays in step with its board as holdouts are retried, also where that ends early.
use Rattle.std.proofs.Common.{◌≡◌, ◌⊎◌, inl, inr, ℕ, ◌+◌, ◌-◌, List, [], ◌++◌, append-nil, length, Option, Some, None, take, refl, sym, ap, ◌∙◌, subst, arith, ◌≢◌, suc, ◌∷◌, append_assoc, All, AllPairs, get_or, Result, Ok, IfSome, IsSome}
use Rattle.std.proofs.Math.Seq.{take-append-add, take-nil}
use Rattle.std.proofs.lemmas.Bool.{cases_lt}
use Rattle.std.proofs.lemmas.List.{take_all, append_cancel_left, take-append-le}
use Rattle.std.specs.Option.{option_map}
use Rattle.std.proofs.lemmas.List.Elements.{All-contains_itself}
use Rattle.cert.specs.Terms.{Recorded, ending_by, with_score}
use Rattle.ledger.specs.declared.header.Format.{Format}
use Rattle.wire.specs.Terms.{IsBegun, grown, cut_to}
use Rattle.wire.proofs.Answers.{begun_next, grown_twice}
use Rattle.cmd_ledgers.specs.Retry.{HasGrown, HasPartOf, gained, with_line, kept_part, StaysInStep, ChangesBy, IsTried, AreTried, AreRetried, LeavesTried, MayTry, LeavesRetried, MayTear}
use Rattle.machine_text.specs.Terms.{Packed}
use Rattle.kind_evidence.specs.declared.verdicts.Ending.{Ending}
use Rattle.law_tree.specs.Terms.{IsVerdict}
use Rattle.ledger.specs.Terms.{Contents, IsBoard, IsHoldout, Resolves, resolved, mark_of, IsLedgerOf, IsTaken, OffersLine, ReadsIn, gained_line, OfferGives, AreAll}
use Rattle.ledger.specs.declared.loading.Left.{Left}
use Rattle.ledger.specs.declared.loading.Left.TheVariants.{Nothing, From}
use Rattle.ledger.specs.declared.loading.Unkept.{Unkept}
use Rattle.ledger.specs.declared.faults.Taken.{Taken}
use Rattle.ledger.specs.declared.faults.Taken.TheVariants.{New, Known, Settled}
use Rattle.ledger.specs.declared.faults.OfferFault.{OfferFault}
use Rattle.ledger.proofs.LedgerTexts.{grows, cut_to_kept}
use Rattle.ledger.proofs.OpenLaws.{settled_other}
use Rattle.ledger.proofs.Sets.{all_apart}

-- A ledger to which lines are written that were gathered.
pub grown_none : (text : Option (List ℕ)) → grown text [] ≡ text
grown_none (Some text) = ap Some (append-nil text)
grown_none None = refl

-- lines behind a text, of which none are left to be written
pub whole_written : (text new : Option (List ℕ)) (lines left : List ℕ) → new ≡ grown text lines → left ≡ [] → grown new left ≡ grown text lines
whole_written text new lines left is none = ap (grown new) none ∙ grown_none new ∙ is

pub grown_more : (text mid new : Option (List ℕ)) → HasGrown text mid → HasGrown mid new → HasGrown text new
grown_more text mid new (xs, is) (ys, later) = (xs ++ ys, later ∙ ap (λ (t : Option (List ℕ)). grown t ys) is ∙ grown_twice text xs ys)

-- the write of the lines that are gathered failed
pub part_begun : (text new : Option (List ℕ)) (lines : List ℕ) → IsBegun text lines new → HasPartOf (grown text lines) text new
part_begun text new lines begun = record { gains = lines; whole_is = refl; begun = begun }

-- it didn't
pub part_whole : (text new : Option (List ℕ)) (lines : List ℕ) → new ≡ grown text lines → HasPartOf (grown text lines) text new
part_whole text new lines is = record { gains = lines; whole_is = refl; begun = (length lines, is ∙ ap (grown text) (sym (take_all (length lines) lines (omega arith)))) }

-- and that from an earlier text on
pub part_later : (text mid whole new : Option (List ℕ)) → HasGrown text mid → HasPartOf whole mid new → HasPartOf whole text new
part_later text mid whole new (xs, is) part = record {
  gains = xs ++ part.gains;
  whole_is = part.whole_is ∙ ap (λ (t : Option (List ℕ)). grown t part.gains) is ∙ grown_twice text xs part.gains;
  begun = begun_next text new xs part.gains (subst (λ (t : Option (List ℕ)). IsBegun t part.gains new) is part.begun);
}

-- a text with lines behind it, that gained the line of a record more
pub one_more_line : (format : Format) (r : Recorded) (text : Option (List ℕ)) (lines new_lines : List ℕ) → new_lines ≡ lines ++ gained format r → grown text new_lines ≡ with_line format r (grown text lines)
one_more_line format r text lines new_lines is = ap (grown text) is ∙ sym (grown_twice text lines (gained format r))

-- a beginning of bytes behind others
pub first_bytes : (text : Option (List ℕ)) (xs ys : List ℕ) (j : ℕ) → IsBegun text xs (grown text (take j (xs ++ ys))) ⊎ (grown text (take j (xs ++ ys)) ≡ grown (grown text xs) (take (j - length xs) ys))
first_bytes text xs ys j = elim (cases_lt j (length xs)) [
  | inl less ↦ inl (j, ap (grown text) (take-append-le j xs ys (omega (arith, less))))
  | inr more ↦
      let k = j - length xs in
      let is : j ≡ length xs + k = omega (arith, more) in
      inr (ap (λ (n : ℕ). grown text (take n (xs ++ ys))) is ∙ ap (grown text) (take-append-add xs ys k) ∙ sym (grown_twice text xs (take k ys)))
]

-- what a ledger gained of what it was to gain, which is one thing where its text is known
pub same_part : (before whole after : Option (List ℕ)) (gains : List ℕ) → whole ≡ grown before gains → HasPartOf whole before after → IsBegun before gains after
same_part None whole after gains is part = (0, part.begun.1)
same_part (Some text) whole after gains is part =
    let twice : Some (text ++ part.gains) ≡ Some (text ++ gains) = sym part.whole_is ∙ is in
    let both : text ++ part.gains ≡ text ++ gains = cc in
    subst (λ (l : List ℕ). IsBegun (Some text) l after) (append_cancel_left text part.gains gains both) part.begun

-- A ledger stays in step with a board when a record is taken and its line is appended; and the holdouts that are left stay holdouts.

-- a ledger that is cut to what was kept of it
pub cut_in_step : (b : Contents) (before after : Option (List ℕ)) (line kept : ℕ) (why : Unkept) → after ≡ cut_to (Some kept) before
    → IfSome before (λ text. ReadsIn b.format b.root text b.records (From line kept why)) → IfSome after (IsLedgerOf b)
cut_in_step b None after line kept why is reads = subst (λ (text : Option (List ℕ)). IfSome text (IsLedgerOf b)) (sym is) tt
cut_in_step b (Some text) after line kept why is reads = subst (λ (text : Option (List ℕ)). IfSome text (IsLedgerOf b)) (sym is)
    (subst (λ (f : Format). ReadsIn f b.root (take kept text) b.records Nothing) reads.version (cut_to_kept b.root text b.records line kept why reads.reads))

-- and by what was kept of it
pub cut_reads : (b : Contents) (left : Left) (text : Option (List ℕ)) → IfSome text (λ t. ReadsIn b.format b.root t b.records left) → IfSome (kept_part left text) (IsLedgerOf b)
cut_reads b Nothing text h = h
cut_reads b (From line kept why) None h = tt
cut_reads b (From line kept why) (Some text) h = cut_in_step b (Some text) (Some (take kept text)) line kept why refl h

stays_with : (old new : Contents) (r : Recorded) (before : Option (List ℕ)) → IsBoard old → IsTaken old.root old.records r new.records
    → new.root ≡ old.root → new.format ≡ old.format → StaysInStep old before new (with_line old.format r before)
stays_with old new r None board taken root format = λ s. s
stays_with old new r (Some text) board taken root format = λ reads.
    subst (λ (f : Format). ReadsIn f new.root (text ++ gained old.format r) new.records Nothing) (sym format)
    (subst (λ (p : Packed). ReadsIn old.format p (text ++ gained old.format r) new.records Nothing) (sym root) (grows old text r new.records board reads taken))

pub stays_by : (old new : Contents) (r : Recorded) (before after : Option (List ℕ)) → IsBoard old → IsTaken old.root old.records r new.records
    → new.root ≡ old.root → new.format ≡ old.format → after ≡ with_line old.format r before → StaysInStep old before new after
stays_by old new r before after board taken root format is =
    subst (λ (text : Option (List ℕ)). StaysInStep old before new text) (sym is) (stays_with old new r before board taken root format)

-- what its offer changes
pub changes_settled : (format : Format) (o : Option Ending) (r : Recorded) (old new : List Recorded) (before after : Option (List ℕ)) → IsSome o
    → Resolves old r → new ≡ resolved old (with_score r) → after ≡ with_line format r before → ChangesBy format o r old before new after
changes_settled format (Some v) r old new before after some resolves is line = (resolves, is, line)
changes_settled format None r old new before after some resolves is line = absurd (cc)

pub changes_none : (format : Format) (o : Option Ending) (r : Recorded) (old new : List Recorded) (before after : Option (List ℕ)) → o ≡ None → new ≡ old → after ≡ before
    → ChangesBy format o r old before new after
changes_none format o r old new before after none is same = subst (λ (x : Option Ending). ChangesBy format x r old before new after) (sym none) (is, same)

changes : (format : Format) (o : Option Ending) (r : Recorded) (old new : List Recorded) (before after : Option (List ℕ)) → ChangesBy format o r old before new after
    → (new ≡ old) ⊎ (new ≡ resolved old (with_score r))
changes format None r old new before after by = inl by.0
changes format (Some v) r old new before after by = inr by.1

-- what comes of an offer of a record for a holdout: it is never new, and known only where it has no verdict
module _ (old new : Contents) (r : Recorded) (lines new_lines : List ℕ) (result : Result Taken OfferFault) (offers : OffersLine r result old lines new new_lines) where
  same_line : (known : result ≡ Ok Known) → Some new_lines ≡ Some lines
  same_line known = ap Some (offers.line ∙ ap (λ (x : Result Taken OfferFault). lines ++ gained_line old.format r x) known ∙ append-nil lines)

  pub offer_changes : (taken : Taken) → IsHoldout old.records r.table → result ≡ Ok taken → ChangesBy old.format (ending_by r.claim) r old.records (Some lines) new.records (Some new_lines)
  offer_changes New holdout is =
      let fit : OfferGives old.root old.records r (Ok New) new.records = subst (λ (x : Result Taken OfferFault). OfferGives old.root old.records r x new.records) is offers.gives in
      let unmarked = fit.0.is_open.unmarked in
      absurd (cc)
  offer_changes Settled holdout is =
      let resolves : OfferGives old.root old.records r (Ok Settled) new.records = subst (λ (x : Result Taken OfferFault). OfferGives old.root old.records r x new.records) is offers.gives in
      changes_settled old.format (ending_by r.claim) r old.records new.records (Some lines) (Some new_lines) resolves.0.verdict resolves.0 resolves.1
      (ap Some (offers.line ∙ ap (λ (x : Result Taken OfferFault). lines ++ gained_line old.format r x) is))
  offer_changes Known holdout is =
      let known : OfferGives old.root old.records r (Ok Known) new.records = subst (λ (x : Result Taken OfferFault). OfferGives old.root old.records r x new.records) is offers.gives in
      let none : ending_by r.claim ≡ None = elim known.0.is [
        | inl verdict ↦ absurd (subst IsVerdict holdout verdict)
        | inr later ↦ later.1
      ] in
      changes_none old.format (ending_by r.claim) r old.records new.records (Some lines) (Some new_lines) none known.1 (same_line is)

-- what changes lines that are gathered changes a ledger with them behind it
pub changes_behind : (format : Format) (o : Option Ending) (r : Recorded) (old new : List Recorded) (text : Option (List ℕ)) (lines new_lines : List ℕ) → ChangesBy format o r old (Some lines) new (Some new_lines)
    → ChangesBy format o r old (grown text lines) new (grown text new_lines)
changes_behind format None r old new text lines new_lines by = let same : new_lines ≡ lines = (let is = by.1 in cc) in (by.0, ap (grown text) same)
changes_behind format (Some v) r old new text lines new_lines by = let is : new_lines ≡ lines ++ gained format r = (let is = by.2 in cc) in (by.0, by.1, one_more_line format r text lines new_lines is)

-- a holdout that is tried keeps a ledger in step
changed_in_step : (old new : Contents) (o : Option Ending) (r : Recorded) (before after : Option (List ℕ)) → IsBoard old → new.root ≡ old.root → new.format ≡ old.format → ChangesBy old.format o r old.records before new.records after
    → StaysInStep old before new after
changed_in_step old new None r before after board root format by =
    let is : new ≡ old = (let records : new.records ≡ old.records = by.0 in λ i. record { root = root i; records = records i; format = format i }) in
    subst (λ (text : Option (List ℕ)). StaysInStep old before new text) (sym by.1) (subst (λ (b : Contents). StaysInStep old before b before) (sym is) (λ s. s))
changed_in_step old new (Some v) r before after board root format by = stays_by old new r before after board (inr (by.0, by.1)) root format by.2

module _ (Answers : Packed → Recorded → Type 0) (t : Packed) (old new : Contents) where
  pub tried_behind : (text : Option (List ℕ)) (lines new_lines : List ℕ) → IsTried Answers old.format t old.records (Some lines) new.records (Some new_lines)
      → IsTried Answers old.format t old.records (grown text lines) new.records (grown text new_lines)
  tried_behind text lines new_lines (r, answered, of, by) = (r, answered, of, changes_behind old.format (ending_by r.claim) r old.records new.records text lines new_lines by)

  pub tried_in_step : (before after : Option (List ℕ)) → IsBoard old → new.root ≡ old.root → new.format ≡ old.format → IsTried Answers old.format t old.records before new.records after → StaysInStep old before new after
  tried_in_step before after board root format (r, answered, of, by) = changed_in_step old new (ending_by r.claim) r before after board root format by

-- tables that wait to be tried: holdouts, each once
pub record AreWaiting (rs : List Recorded) (ts : List Packed) : Type 0 where
  pub apart : AllPairs (λ (a b : Packed). a ≢ b) ts
  pub holdouts : All (IsHoldout rs) ts

pub all_wait : (rs : List Recorded) (ts : List Packed) → AreAll (IsHoldout rs) ts → AreWaiting rs ts
all_wait rs ts all = record {
  apart = all_apart (IsHoldout rs) ts all;
  holdouts = λ i d below. (all.exact (get_or ts i d)).0 (All-contains_itself ts i d below);
}

pub first_waits : (rs : List Recorded) (t : Packed) (ts : List Packed) → AreWaiting rs (t ∷ ts) → IsHoldout rs t
first_waits rs t ts waiting = waiting.holdouts 0 t (omega arith)

stays_holdout : (rs new : List Recorded) (r : Recorded) (t : Packed) → t ≢ r.table → (new ≡ rs) ⊎ (new ≡ resolved rs (with_score r)) → IsHoldout rs t → IsHoldout new t
stays_holdout rs new r t other (inl same) holdout = subst (λ (l : List Recorded). IsHoldout l t) (sym same) holdout
stays_holdout rs new r t other (inr is) holdout = subst (λ (l : List Recorded). IsHoldout l t) (sym is) (ap (option_map mark_of) (settled_other rs (with_score r) t other) ∙ holdout)

-- once the first was tried the others wait as before
pub others_wait : (format : Format) (rs new : List Recorded) (before after : Option (List ℕ)) (r : Recorded) (t : Packed) (ts : List Packed) → r.table ≡ t → ChangesBy format (ending_by r.claim) r rs before new after
    → AreWaiting rs (t ∷ ts) → AreWaiting new ts
others_wait format rs new before after r t ts of by waiting = record {
  apart = λ i j d less below. waiting.apart (suc i) (suc j) d (omega arith) (omega arith);
  holdouts = λ i d below.
      let other : t ≢ get_or ts i d = waiting.apart 0 (suc i) d (omega arith) (omega arith) in
      stays_holdout rs new r (get_or ts i d) (λ e. other (sym of ∙ sym e)) (changes format (ending_by r.claim) r rs new before after by)
      (waiting.holdouts (suc i) d (omega arith));
}

-- those that were tried, and then more
tried_more : (Answers : Packed → Recorded → Type 0) (format : Format) (ts us : List Packed) (old mid new : List Recorded) (before text after : Option (List ℕ)) →
    AreTried Answers format ts old before mid text → AreTried Answers format us mid text new after → AreTried Answers format (ts ++ us) old before new after
tried_more Answers format [] us old mid new before text after none more =
    subst (λ (t : Option (List ℕ)). AreTried Answers format us old t new after) none.1 (subst (λ (l : List Recorded). AreTried Answers format us l text new after) none.0 more)
tried_more Answers format (t ∷ ts) us old mid new before text after (next, halfway, here, rest) more =
    (next, halfway, here, tried_more Answers format ts us next mid new halfway text after rest more)

-- one more is tried: with those that are left they are still all
pub one_tried : (K : Packed → Type 0) (Answers : Packed → Recorded → Type 0) (format : Format) (tried : List Packed) (t : Packed) (left rest : List Packed) (old mid new : List Recorded) (before text after : Option (List ℕ)) →
    left ≡ t ∷ rest → AreAll K (tried ++ left) → AreTried Answers format tried old before mid text → IsTried Answers format t mid text new after →
    (more : List Packed) × AreAll K (more ++ rest) × AreTried Answers format more old before new after
one_tried K Answers format tried t left rest old mid new before text after is all are here = (
  tried ++ (t ∷ []),
  subst (AreAll K) (ap (λ (l : List Packed). tried ++ l) is ∙ sym (append_assoc tried (t ∷ []) rest)) all,
  tried_more Answers format tried (t ∷ []) old mid new before text after are (new, after, here, (refl, refl)),
)

-- none is left, so all are tried
pub all_tried : (Answers : Packed → Recorded → Type 0) (old new : Contents) (before after : Option (List ℕ)) (tried left : List Packed) → left ≡ [] →
    AreAll (IsHoldout old.records) (tried ++ left) → AreTried Answers old.format tried old.records before new.records after → AreRetried Answers old before new after
all_tried Answers old new before after tried left none all are =
    (tried, subst (AreAll (IsHoldout old.records)) (ap (λ (l : List Packed). tried ++ l) none ∙ append-nil tried) all, are)

-- it ends at one that is left: there nothing has changed, or it was tried too
pub ends_at : (Answers : Packed → Recorded → Type 0) (old new : Contents) (format : Format) (mid : List Recorded) (before held text whole after : Option (List ℕ)) (tried : List Packed) (t : Packed) (left rest : List Packed)
    → left ≡ t ∷ rest → format ≡ old.format → AreAll (IsHoldout old.records) (tried ++ left) → AreTried Answers old.format tried old.records before mid text
    → MayTry Answers format t mid text new.records whole → HasGrown before held → HasPartOf whole held after → LeavesTried Answers old before new after
ends_at Answers old new format mid before held text whole after tried t left rest is was all are (inl (same, same_text)) more part = inr (record {
  tried = tried;
  later = left;
  are_all = all;
  whole = whole;
  are_tried = subst (λ (l : List Recorded). AreTried Answers old.format tried old.records before l whole) (sym same)
      (subst (λ (o : Option (List ℕ)). AreTried Answers old.format tried old.records before mid o) (sym same_text) are);
  part = part_later before held whole after more part;
})
ends_at Answers old new format mid before held text whole after tried t left rest is was all are (inr here) more part =
    let (now_tried, now_all, now_are) =
    one_tried (IsHoldout old.records) Answers old.format tried t left rest old.records mid new.records before text whole is all are
    (subst (λ (f : Format). IsTried Answers f t mid text new.records whole) was here) in
    inr (record {
      tried = now_tried;
      later = rest;
      are_all = now_all;
      whole = whole;
      are_tried = now_are;
      part = part_later before held whole after more part;
    })

-- A ledger that has a beginning of the lines of the holdouts that were tried: it ends at one of them.
module _ (Answers : Packed → Recorded → Type 0) (format : Format) where
  -- the first were tried, and the line of the next is torn; or all were
  abbrev pub Stopped : List Packed → List Recorded → Option (List ℕ) → Option (List ℕ) → Type 0
  Stopped ts old before after = (new : List Recorded) × (AreTried Answers format ts old before new after
      ⊎ ((tried later : List Packed) × (t : Packed) × (ts ≡ tried ++ t ∷ later) × (mid : List Recorded) × (text : Option (List ℕ)) × AreTried Answers format tried old before mid text
      × MayTear Answers format t mid text new after))

  stopped_later : (t : Packed) (ts : List Packed) (old mid : List Recorded) (before text after : Option (List ℕ)) → IsTried Answers format t old before mid text → Stopped ts mid text after → Stopped (t ∷ ts) old before after
  stopped_later t ts old mid before text after here (new, inl are) = (new, inl (mid, text, here, are))
  stopped_later t ts old mid before text after here (new, inr (tried, later, at, is, halfway, held, are, ends)) =
      (new, inr (t ∷ tried, later, at, ap (λ (l : List Packed). t ∷ l) is, halfway, held, (mid, text, here, are), ends))

  abbrev line_by : Option Ending → Recorded → List ℕ
  line_by None r = []
  line_by (Some v) r = gained format r

  line_gained : (o : Option Ending) (r : Recorded) (old new : List Recorded) (before after : Option (List ℕ)) → ChangesBy format o r old before new after → after ≡ grown before (line_by o r)
  line_gained None r old new before after by = by.1 ∙ sym (grown_none before)
  line_gained (Some v) r old new before after by = by.2

  line_torn : (o : Option Ending) (r : Recorded) (t : Packed) (old new : List Recorded) (before mid after : Option (List ℕ)) → Answers t r → r.table ≡ t → ChangesBy format o r old before new mid
      → IsBegun before (line_by o r) after → (rs : List Recorded) × MayTear Answers format t old before rs after
  line_torn None r t old new before mid after answered of by begun = (old, inl (refl, begun.1 ∙ ap (grown before) (take-nil begun.0) ∙ grown_none before))
  line_torn (Some v) r t old new before mid after answered of by begun = (new, inr (r, answered, of, (by.0, by.1, begun)))

  -- wherever the lines of holdouts that were tried are cut off
  pub torn : (ts : List Packed) (old new : List Recorded) (before whole : Option (List ℕ)) → AreTried Answers format ts old before new whole
      → (gains : List ℕ) × (whole ≡ grown before gains) × ((j : ℕ) → Stopped ts old before (grown before (take j gains)))
  torn [] old new before whole none = ([], none.1 ∙ sym (grown_none before), λ j. (old, inl (refl, ap (grown before) (take-nil j) ∙ grown_none before)))
  torn (t ∷ ts) old new before whole (mid, text, (r, answered, of, by), rest) =
      let (gains, is, stops) = torn ts mid new text whole rest in
      let line = line_by (ending_by r.claim) r in
      let has : text ≡ grown before line = line_gained (ending_by r.claim) r old mid before text by in (
        line ++ gains,
        is ∙ ap (λ (o : Option (List ℕ)). grown o gains) has ∙ grown_twice before line gains,
        λ j. elim (first_bytes before line gains j) [
          | inl begun ↦
              let (rs, ends) = line_torn (ending_by r.claim) r t old mid before text _ answered of by begun in
              (rs, inr ([], ts, t, refl, old, before, (refl, refl), ends))
          | inr later ↦
              let k = j - length line in
              let same : grown text (take k gains) ≡ grown before (take j (line ++ gains)) = ap (λ (o : Option (List ℕ)). grown o (take k gains)) has ∙ sym later in
              stopped_later t ts old mid before text _ (r, answered, of, by) (subst (λ (o : Option (List ℕ)). Stopped ts mid text o) same (stops k))
        ],
      )

module _ (Answers : Packed → Recorded → Type 0) (old : Contents) (before after : Option (List ℕ)) (tried later : List Packed) (are_all : AreAll (IsHoldout old.records) (tried ++ later)) where
  abbrev all_of : List Recorded → Contents
  all_of rs = record { root = old.root; records = rs; format = old.format }

  none_torn : (rs : List Recorded) (rest : List Packed) → later ≡ rest → AreTried Answers old.format tried old.records before rs after → LeavesRetried Answers old before (all_of rs) after
  none_torn rs [] is are = inr (inr (tried, subst (AreAll (IsHoldout old.records)) (ap (λ (l : List Packed). tried ++ l) is ∙ append-nil tried) are_all, are))
  none_torn rs (t ∷ rest) is are = inr (inl (record {
    tried = tried;
    at = t;
    later = rest;
    are_all = subst (λ (l : List Packed). AreAll (IsHoldout old.records) (tried ++ l)) is are_all;
    mid = rs;
    text = after;
    are_tried = are;
    ends = inl (refl, refl);
  }))

  where_torn : Stopped Answers old.format tried old.records before after → (b : Contents) × LeavesRetried Answers old before b after
  where_torn (rs, inl are) = (all_of rs, none_torn rs later refl are)
  where_torn (rs, inr (first, next, t, is, mid, text, are, ends)) = (
    all_of rs,
    inr (inl (record {
      tried = first;
      at = t;
      later = next ++ later;
      are_all = subst (AreAll (IsHoldout old.records)) (ap (λ (l : List Packed). l ++ later) is ∙ append_assoc first (t ∷ next) later) are_all;
      mid = mid;
      text = text;
      are_tried = are;
      ends = ends;
    })),
  )

-- so a ledger that is behind its board is that of another board, which ends at one of its holdouts
pub left_retried : (Answers : Packed → Recorded → Type 0) (old new : Contents) (before after : Option (List ℕ)) → LeavesTried Answers old before new after → (b : Contents) × LeavesRetried Answers old before b after
left_retried Answers old new before after (inl nothing) = (new, inl nothing)
left_retried Answers old new before after (inr h) =
    let (gains, is, stops) = torn Answers old.format h.tried old.records new.records before h.whole h.are_tried in
    let (j, cut) = same_part before h.whole after gains is h.part in
    where_torn Answers old before after h.tried h.later h.are_all (subst (λ (o : Option (List ℕ)). Stopped Answers old.format h.tried old.records before o) (sym cut) (stops j))
