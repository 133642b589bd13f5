-- What a board comes to that another's records are offered to.
use Rattle.std.proofs.Common.{◌≡◌, ◌≢◌, ℕ, true, false, List, [], ◌∷◌, ◌++◌, Option, Some, None, option_map, ◌↔◌, ◌⊎◌, inl, inr, Result, Ok, Err, refl, sym, ◌∙◌, ap, subst, append_assoc, append-nil}
use Rattle.machine_text.specs.Terms.{Packed, entry_of}
use Rattle.law_turing.specs.Terms.{Never as NeverHalts}
use Rattle.kind_evidence.specs.declared.verdicts.Ending.{Ending}
use Rattle.kind_evidence.specs.declared.verdicts.Ending.TheVariants.{Halts, Never}
use Rattle.law_tree.specs.Terms.{Mark, Halting, NeverHalting, Holdout, IsTrueMark, AreTrueMarks, IsVerdict, IsOpen, IsComplete}
use Rattle.cert.specs.Terms.{IsCertified, scored, with_score, Claim, Recorded, ending_by}
use Rattle.cert.proofs.Claims.{scored_ends}
use Rattle.ledger.specs.Records.{same_table, claim_in, mark_in, mark_of, mark_by, ending_in, ending_where, IsFit, AreFitAfter, Contents, IsBoard}
use Rattle.ledger.specs.Offers.{IsKnown, OfferGives, IsRefusedOnly}
use Rattle.ledger.specs.Merging.{AreTakenIn, IsMerged}
use Rattle.ledger.specs.declared.faults.Taken.{Taken}
use Rattle.ledger.specs.declared.faults.Taken.TheVariants.{New, Known, Settled}
use Rattle.ledger.specs.declared.faults.OfferFault.{OfferFault}
use Rattle.ledger.specs.declared.faults.OfferFault.TheVariants.{WrongSize, NotOpen, Refused as IsRefused, NoMemory}
use Rattle.ledger.proofs.Claims.{same_is, same_itself, apart, claim_here, claim_more, claim_none}
use Rattle.ledger.proofs.HeldLaws.{unmarked, mark_kept}
use Rattle.ledger.proofs.OpenLaws.{IsTaken, taken_new, recorded_in_tree}
use Rattle.ledger.proofs.BoardLaws.{Below, taken_last, taken_settling, OfTables}

-- what two marks of a table say together: the verdict of the first, or else the second
abbrev pub joined : Option Mark → Option Mark → Option Mark
joined None b = b
joined (Some (Halting k)) b = Some (Halting k)
joined (Some NeverHalting) b = Some NeverHalting
joined (Some Holdout) None = Some Holdout
joined (Some Holdout) (Some m) = Some m

abbrev pub AreJoined : List Recorded → List Recorded → List Recorded → Type 0
AreJoined a b new = (t : Packed) → mark_in new t ≡ joined (mark_in a t) (mark_in b t)

joined_none : (o : Option Mark) → joined o None ≡ o
joined_none None = refl
joined_none (Some (Halting k)) = refl
joined_none (Some NeverHalting) = refl
joined_none (Some Holdout) = refl

joined_verdict : (o b : Option Mark) → IsVerdict o → joined o b ≡ o
joined_verdict None b v = absurd v
joined_verdict (Some (Halting k)) b v = refl
joined_verdict (Some NeverHalting) b v = refl
joined_verdict (Some Holdout) b v = absurd v

pub joined_start : (a : List Recorded) → AreJoined a [] a
joined_start a = λ t. sym (ap (joined (mark_in a t)) (ap (option_map mark_of) (claim_none t)) ∙ joined_none (mark_in a t))

-- what an offer that is taken does to the marks: its own table's is joined with that of the record, the others stay
taken_by : (root : Packed) (old new : List Recorded) (r : Recorded) (taken : Taken) → OfferGives root old r (Ok taken) new → IsTaken old new (with_score r) ⊎ (IsKnown old r × (new ≡ old))
taken_by root old new r New gives = inl (subst (λ (l : List Recorded). IsTaken old l (with_score r)) (sym gives.1) (taken_last old (with_score r) root gives.0.is_open))
taken_by root old new r Settled gives = inl (subst (λ (l : List Recorded). IsTaken old l (with_score r)) (sym gives.1) (taken_settling old (with_score r) gives.0.is_holdout))
taken_by root old new r Known gives = inr gives

mark_other : (root : Packed) (old new : List Recorded) (r : Recorded) (taken : Taken) (t : Packed) → OfferGives root old r (Ok taken) new → t ≢ r.table → mark_in new t ≡ mark_in old t
mark_other root old new r taken t gives other = elim (taken_by root old new r taken gives) [
  | inl taken ↦ ap (option_map mark_of) (taken.others t other)
  | inr known ↦ ap (λ (l : List Recorded). mark_in l t) known.1
]

mark_scored : (r : Recorded) → option_map mark_of (Some (scored r.table r.claim)) ≡ Some (mark_of r.claim)
mark_scored r = ap (λ (o : Option Ending). Some (mark_by o)) (scored_ends r.table r.claim)

mark_own : (root : Packed) (old new : List Recorded) (r : Recorded) (taken : Taken) → OfferGives root old r (Ok taken) new → mark_in new r.table ≡ joined (mark_in old r.table) (Some (mark_of r.claim))
mark_own root old new r New gives =
    ap (λ (l : List Recorded). mark_in l r.table) gives.1 ∙ (ap (option_map mark_of) (taken_last old (with_score r) root gives.0.is_open).here ∙ mark_scored r
    ∙ ap (λ (o : Option Mark). joined o (Some (mark_of r.claim))) (sym gives.0.is_open.unmarked))
mark_own root old new r Settled gives =
    ap (λ (l : List Recorded). mark_in l r.table) gives.1 ∙ (ap (option_map mark_of) (taken_settling old (with_score r) gives.0.is_holdout).here ∙ mark_scored r
    ∙ ap (λ (o : Option Mark). joined o (Some (mark_of r.claim))) (sym gives.0.is_holdout))
mark_own root old new r Known gives = ap (λ (l : List Recorded). mark_in l r.table) gives.1 ∙ elim gives.0.is [
  | inl verdict ↦ sym (joined_verdict (mark_in old r.table) (Some (mark_of r.claim)) verdict)
  | inr held ↦ held.0 ∙ (ap (λ (o : Option Ending). Some (mark_by o)) (sym held.1) ∙ ap (λ (o : Option Mark). joined o (Some (mark_of r.claim))) (sym held.0))
]

-- one record more is taken
joined_next : (root : Packed) (a start cur new : List Recorded) (r : Recorded) (taken : Taken) → AreJoined a start cur → claim_in start r.table ≡ None → OfferGives root cur r (Ok taken) new
    → AreJoined a (start ++ (r ∷ [])) new
joined_next root a start cur new r taken before none gives t =
    let more = taken_new start r none in
    elim (same_table r.table t) as (λ v. same_table r.table t ≡ v → mark_in new t ≡ joined (mark_in a t) (mark_in (start ++ (r ∷ [])) t)) [
      | true ↦ λ same. subst (λ (p : Packed). mark_in new p ≡ joined (mark_in a p) (mark_in (start ++ (r ∷ [])) p)) (same_is r.table t same) own
      | false ↦ λ past.
          let other : t ≢ r.table = λ (e : t ≡ r.table). apart r.table t past (sym e) in
          mark_other root cur new r taken t gives other ∙ (before t ∙ ap (λ (o : Option Claim). joined (mark_in a t) (option_map mark_of o)) (sym (more.others t other)))
    ] refl
  where
    own : mark_in new r.table ≡ joined (mark_in a r.table) (mark_in (start ++ (r ∷ [])) r.table)
    own =
        let first : mark_in cur r.table ≡ mark_in a r.table = before r.table ∙ (ap (λ (o : Option Claim). joined (mark_in a r.table) (option_map mark_of o)) none ∙ joined_none (mark_in a r.table)) in
        mark_own root cur new r taken gives ∙ (ap (λ (o : Option Mark). joined o (Some (mark_of r.claim))) first
        ∙ ap (λ (o : Option Claim). joined (mark_in a r.table) (option_map mark_of o)) (sym (taken_new start r none).here))

taken_next : (root : Packed) (a start cur new : List Recorded) (r : Recorded) (taken : Taken) → AreTakenIn root a start cur → OfferGives root cur r (Ok taken) new → AreTakenIn root a (start ++ (r ∷ [])) new
taken_next root a [] cur new r taken before gives = (taken, new, subst (λ (l : List Recorded). OfferGives root l r (Ok taken) new) before gives, refl)
taken_next root a (x ∷ xs) cur new r taken before gives = (before.0, before.1, before.2, taken_next root before.1 xs cur new r taken before.3 gives)

-- so far the records start of all were taken, and these are left
pub record MergedSoFar (root : Packed) (old all left cur : List Recorded) : Type 0 where
  pub start : List Recorded
  pub split : all ≡ start ++ left
  pub taken : AreTakenIn root old start cur
  pub marks : AreJoined old start cur

pub none_so_far : (root : Packed) (old all : List Recorded) → MergedSoFar root old all all old
none_so_far root old all = record { start = []; split = refl; taken = refl; marks = joined_start old }

-- each record of a held list is fit after those before it
fit_at : (root : Packed) (earlier start : List Recorded) (r : Recorded) (rest : List Recorded) → AreFitAfter root earlier (start ++ (r ∷ rest)) → IsFit root (earlier ++ start) r
fit_at root earlier [] r rest fit = subst (λ (l : List Recorded). IsFit root l r) (sym (append-nil earlier)) fit.0
fit_at root earlier (x ∷ xs) r rest fit = subst (λ (l : List Recorded). IsFit root l r) (append_assoc earlier (x ∷ []) xs) (fit_at root (earlier ++ (x ∷ [])) xs r rest fit.1)

fit_next : (other : Contents) (start rest : List Recorded) (r : Recorded) → IsBoard other → other.records ≡ start ++ (r ∷ rest) → IsFit other.root start r
fit_next other start rest r board split = fit_at other.root [] start r rest (subst (AreFitAfter other.root []) split board.held.fit)

-- the next record of the other board is certified
pub next_certified : (root : Packed) (other : Contents) (old left rest cur : List Recorded) (r : Recorded) → IsBoard other → MergedSoFar root old other.records left cur → left ≡ r ∷ rest → IsCertified r
next_certified root other old left rest cur r board before next =
    (fit_next other before.start rest r board (before.split ∙ ap (λ (l : List Recorded). before.start ++ l) next)).certified

pub one_more : (root : Packed) (other : Contents) (old left rest cur new : List Recorded) (r : Recorded) (taken : Taken) → IsBoard other → MergedSoFar root old other.records left cur → left ≡ r ∷ rest
    → OfferGives root cur r (Ok taken) new → MergedSoFar root old other.records rest new
one_more root other old left rest cur new r taken board before next gives =
    let split = before.split ∙ ap (λ (l : List Recorded). before.start ++ l) next in
    let fit = fit_next other before.start rest r board split in record {
      start = before.start ++ (r ∷ []);
      split = split ∙ sym (append_assoc before.start (r ∷ []) rest);
      taken = taken_next root old before.start cur new r taken before.taken gives;
      marks = joined_next root old before.start cur new r taken before.marks (unmarked (claim_in before.start r.table) fit.is_open.unmarked) gives;
    }

-- the first board's marks are true, so what another says to halt still halts
halting_joined : (o : Option Mark) (p : Packed) (k : ℕ) → IsTrueMark p o → (NeverHalts (entry_of p) → ⊥) → (j : ℕ) × (joined o (Some (Halting k)) ≡ Some (Halting j))
halting_joined None p k is halts = (k, refl)
halting_joined (Some (Halting j)) p k is halts = (j, refl)
halting_joined (Some NeverHalting) p k is halts = absurd (halts is)
halting_joined (Some Holdout) p k is halts = (k, refl)

open_joined : (root : Packed) (a start cur : List Recorded) (t : Packed) → AreTrueMarks (mark_in a) → AreJoined a start cur → IsOpen root (mark_in start) t → mark_in cur t ≡ None → IsOpen root (mark_in cur) t
open_joined root a start cur t true_marks marks is_open none = record {
  unmarked = none;
  place = elim is_open.place [
    | inl e ↦ inl e
    | inr w ↦
        let halting = halting_joined (mark_in a w.0) w.0 w.1 (true_marks w.0) (λ never. never w.3.count w.3.halts.halts) in
        inr (w.0, halting.0, marks w.0 ∙ (ap (joined (mark_in a w.0)) w.2 ∙ halting.1), w.3)
  ];
}

-- so none of another board's records is refused, but for want of memory
never_refused : (other : Contents) (old left rest cur new : List Recorded) (r : Recorded) (f : OfferFault) → Below → OfTables → AreTrueMarks (mark_in old) → IsBoard other
    → MergedSoFar other.root old other.records left cur → left ≡ r ∷ rest → f ≢ NoMemory → OfferGives other.root cur r (Err f) new → IsRefusedOnly ⊥ f → ⊥
never_refused other old left rest cur new r f below tables true_marks board before next no_memory gives stands = refused f no_memory gives stands
  where
    split : other.records ≡ before.start ++ (r ∷ rest)
    split = before.split ∙ ap (λ (l : List Recorded). before.start ++ l) next

    fit : IsFit other.root before.start r
    fit = fit_next other before.start rest r board split

    recorded : claim_in other.records r.table ≡ Some r.claim
    recorded = ap (λ (l : List Recorded). claim_in l r.table) split
        ∙ (claim_more before.start (r ∷ rest) r.table (unmarked (claim_in before.start r.table) fit.is_open.unmarked) ∙ claim_here r rest r.table (same_itself r.table))

    refused : (f : OfferFault) → f ≢ NoMemory → OfferGives other.root cur r (Err f) new → IsRefusedOnly ⊥ f → ⊥
    refused WrongSize no_memory gives stands = gives.0 (tables other.root r.table board.is_table (recorded_in_tree other.root other.records r.table r.claim below board.held recorded)).1
    refused NotOpen no_memory gives stands =
        gives.1.not_open (open_joined other.root old before.start cur r.table true_marks before.marks fit.is_open (ap (option_map mark_of) gives.1.unrecorded))
    refused (IsRefused f) no_memory gives stands = stands
    refused NoMemory no_memory gives stands = no_memory refl

-- the verdict of a mark
abbrev pub shown_mark : Option Mark → Option Ending
shown_mark None = None
shown_mark (Some (Halting k)) = Some (Halts k)
shown_mark (Some NeverHalting) = Some Never
shown_mark (Some Holdout) = None

shown_again : (o : Option Ending) → o ≡ shown_mark (Some (mark_by o))
shown_again None = refl
shown_again (Some (Halts k)) = refl
shown_again (Some Never) = refl

pub verdict_is : (rs : List Recorded) (t : Packed) → ending_in rs t ≡ shown_mark (mark_in rs t)
verdict_is rs t = elim (claim_in rs t) as (λ o. ending_where o ≡ shown_mark (option_map mark_of o)) [
  | None ↦ refl
  | Some c ↦ shown_again (ending_by c)
]

shows : (o : Option Mark) (v : Ending) → shown_mark o ≡ Some v → IsVerdict o
shows None v e = absurd (cc)
shows (Some (Halting k)) v e = tt
shows (Some NeverHalting) v e = tt
shows (Some Holdout) v e = absurd (cc)

-- the law of trees that the code calls
abbrev pub OneVerdict : Type 0
OneVerdict = (t : Packed) (a b : Option Mark) → IsTrueMark t a → IsTrueMark t b → IsVerdict a → IsVerdict b → a ≡ b

same_verdict : (t : Packed) (a b : Option Mark) (v : Ending) → OneVerdict → IsTrueMark t a → IsTrueMark t b → IsVerdict a → shown_mark b ≡ Some v → shown_mark a ≡ Some v
same_verdict t a b v one is_a is_b verdict is = ap shown_mark (one t a b is_a is_b verdict (shows b v is)) ∙ is

verdicts_joined : (t : Packed) (a b : Option Mark) (v : Ending) → OneVerdict → IsTrueMark t a → IsTrueMark t b → (shown_mark (joined a b) ≡ Some v) ↔ ((shown_mark a ≡ Some v) ⊎ (shown_mark b ≡ Some v))
verdicts_joined t None b v one is_a is_b = (λ e. inr e, λ h. elim h [ inl e ↦ absurd (cc) | inr e ↦ e ])
verdicts_joined t (Some (Halting k)) b v one is_a is_b = (λ e. inl e, λ h. elim h [ inl e ↦ e | inr e ↦ same_verdict t (Some (Halting k)) b v one is_a is_b tt e ])
verdicts_joined t (Some NeverHalting) b v one is_a is_b = (λ e. inl e, λ h. elim h [ inl e ↦ e | inr e ↦ same_verdict t (Some NeverHalting) b v one is_a is_b tt e ])
verdicts_joined t (Some Holdout) None v one is_a is_b = (λ e. inl e, λ h. elim h [ inl e ↦ e | inr e ↦ e ])
verdicts_joined t (Some Holdout) (Some m) v one is_a is_b = (λ e. inr e, λ h. elim h [ inl e ↦ absurd (cc) | inr e ↦ e ])

shows_none : (m : Mark) → shown_mark (Some m) ≡ None → Some m ≡ Some Holdout
shows_none (Halting k) e = absurd (cc)
shows_none NeverHalting e = absurd (cc)
shows_none Holdout e = refl

holdouts_joined : (a b : Option Mark) → (joined a b ≡ Some Holdout) ↔ (((a ≡ Some Holdout) ⊎ (b ≡ Some Holdout)) × (shown_mark a ≡ None) × (shown_mark b ≡ None))
holdouts_joined None b = (λ e. (inr e, refl, ap shown_mark e), λ h. elim h.0 [ inl e ↦ absurd (cc) | inr e ↦ e ])
holdouts_joined (Some (Halting k)) b = (λ e. absurd (cc), λ h. let shown = h.1 in absurd (cc))
holdouts_joined (Some NeverHalting) b = (λ e. absurd (cc), λ h. let shown = h.1 in absurd (cc))
holdouts_joined (Some Holdout) None = (λ e. (inl refl, refl, refl), λ h. refl)
holdouts_joined (Some Holdout) (Some m) = (λ e. (inl refl, refl, ap shown_mark e), λ h. shows_none m h.2)

-- a beginning of true records is true
true_start : (all start rest : List Recorded) → all ≡ start ++ rest → AreTrueMarks (mark_in all) → AreTrueMarks (mark_in start)
true_start all start rest split is t = elim (mark_in start t) as (λ o. mark_in start t ≡ o → IsTrueMark t o) [
  | None ↦ λ none. tt
  | Some m ↦ λ here. subst (IsTrueMark t) (ap (λ (l : List Recorded). mark_in l t) split ∙ mark_kept start rest t m here) (is t)
] refl

merged : (a b new : List Recorded) → OneVerdict → AreTrueMarks (mark_in a) → AreTrueMarks (mark_in b) → AreJoined a b new → IsMerged a b new
merged a b new one is_a is_b marks = record {
  verdicts = λ t v. rw (verdict_is new t, verdict_is a t, verdict_is b t, marks t) (verdicts_joined t (mark_in a t) (mark_in b t) v one (is_a t) (is_b t));
  holdouts = λ t. rw (verdict_is a t, verdict_is b t, marks t) (holdouts_joined (mark_in a t) (mark_in b t));
}

merged_so_far : (root : Packed) (old all left cur : List Recorded) → OneVerdict → AreTrueMarks (mark_in old) → AreTrueMarks (mark_in all) → (so_far : MergedSoFar root old all left cur)
    → IsMerged old so_far.start cur
merged_so_far root old all left cur one is_old is_all so_far = merged old so_far.start cur one is_old (true_start all so_far.start left so_far.split is_all) so_far.marks

-- at any time some were taken, and at the end all
pub merged_some : (root : Packed) (old all left cur new : List Recorded) → OneVerdict → AreTrueMarks (mark_in old) → AreTrueMarks (mark_in all) → MergedSoFar root old all left cur → new ≡ cur
    → (start : List Recorded) × (rest : List Recorded) × (all ≡ start ++ rest) × AreTakenIn root old start new × IsMerged old start new
merged_some root old all left cur new one is_old is_all so_far same = (
  so_far.start,
  left,
  so_far.split,
  subst (AreTakenIn root old so_far.start) (sym same) so_far.taken,
  subst (IsMerged old so_far.start) (sym same) (merged_so_far root old all left cur one is_old is_all so_far),
)

pub merged_all : (root : Packed) (old all left cur : List Recorded) → OneVerdict → AreTrueMarks (mark_in old) → AreTrueMarks (mark_in all) → MergedSoFar root old all left cur → left ≡ []
    → AreTakenIn root old all cur × IsMerged old all cur
merged_all root old all left cur one is_old is_all so_far none =
    let whole : so_far.start ≡ all = sym (so_far.split ∙ (ap (λ (l : List Recorded). so_far.start ++ l) none ∙ append-nil so_far.start)) in (
      subst (λ (l : List Recorded). AreTakenIn root old l cur) whole so_far.taken,
      subst (λ (l : List Recorded). IsMerged old l cur) whole (merged_so_far root old all left cur one is_old is_all so_far),
    )

pub never_refused_here : (root : Packed) (other : Contents) (old left rest cur new : List Recorded) (r : Recorded) (f : OfferFault) → Below → OfTables → AreTrueMarks (mark_in old) → IsBoard other → root ≡ other.root
    → MergedSoFar root old other.records left cur → left ≡ r ∷ rest → f ≢ NoMemory → OfferGives root cur r (Err f) new → IsRefusedOnly ⊥ f → ⊥
never_refused_here root other old left rest cur new r f below tables true_marks board same before next no_memory gives stands =
    never_refused other old left rest cur new r f below tables true_marks board (subst (λ (p : Packed). MergedSoFar p old other.records left cur) same before) next no_memory
    (subst (λ (p : Packed). OfferGives p cur r (Err f) new) same gives) stands

-- no offer changes the records of a complete board, and so no merge does
pub offer_is_final : (root : Packed) (old new : List Recorded) (r : Recorded) (answer : Result Taken OfferFault) → IsComplete root (mark_in old) → OfferGives root old r answer new → new ≡ old
offer_is_final root old new r (Ok New) complete gives = absurd (complete.none_open r.table gives.0.is_open)
offer_is_final root old new r (Ok Known) complete gives = gives.1
offer_is_final root old new r (Ok Settled) complete gives = absurd (complete.no_holdout r.table gives.0.is_holdout)
offer_is_final root old new r (Err WrongSize) complete gives = gives.1
offer_is_final root old new r (Err NotOpen) complete gives = gives.2
offer_is_final root old new r (Err (IsRefused f)) complete gives = gives.2
offer_is_final root old new r (Err NoMemory) complete gives = gives.1

taken_is_final : (root : Packed) (old rs new : List Recorded) → IsComplete root (mark_in old) → AreTakenIn root old rs new → new ≡ old
taken_is_final root old [] new complete taken = taken
taken_is_final root old (r ∷ rs) new complete (answer, mid, gives, taken) =
    let same : mid ≡ old = offer_is_final root old mid r (Ok answer) complete gives in
    taken_is_final root mid rs new (subst (λ (l : List Recorded). IsComplete root (mark_in l)) (sym same) complete) taken ∙ same

pub so_far_is_final : (root : Packed) (old all left cur : List Recorded) → MergedSoFar root old all left cur → IsComplete root (mark_in old) → cur ≡ old
so_far_is_final root old all left cur so_far complete = taken_is_final root old so_far.start cur complete so_far.taken

pub unchanged_for_memory : (root : Packed) (old new : List Recorded) (r : Recorded) (f : OfferFault) → f ≡ NoMemory → OfferGives root old r (Err f) new → new ≡ old
unchanged_for_memory root old new r f is gives = (subst (λ (x : OfferFault). OfferGives root old r (Err x) new) is gives).1

-- what is shown of a table, and whether it is a holdout, is its mark
mark_shown : (o : Option Mark) (v : Ending) → shown_mark o ≡ Some v → o ≡ Some (mark_by (Some v))
mark_shown None v e = absurd (cc)
mark_shown (Some (Halting k)) v e = ap (λ (o : Option Ending). Some (mark_by o)) e
mark_shown (Some NeverHalting) v e = ap (λ (o : Option Ending). Some (mark_by o)) e
mark_shown (Some Holdout) v e = absurd (cc)

one_mark : (a b : Option Mark) → ((v : Ending) → (shown_mark a ≡ Some v) ↔ (shown_mark b ≡ Some v)) → (a ≡ Some Holdout) ↔ (b ≡ Some Holdout) → a ≡ b
one_mark (Some (Halting k)) b shown held = sym (mark_shown b (Halts k) ((shown (Halts k)).0 refl))
one_mark (Some NeverHalting) b shown held = sym (mark_shown b Never ((shown Never).0 refl))
one_mark (Some Holdout) b shown held = sym (held.0 refl)
one_mark None None shown held = refl
one_mark None (Some (Halting k)) shown held = mark_shown None (Halts k) ((shown (Halts k)).1 refl)
one_mark None (Some NeverHalting) shown held = mark_shown None Never ((shown Never).1 refl)
one_mark None (Some Holdout) shown held = held.1 refl

either : {P Q : Type 0} → P ⊎ Q → Q ⊎ P
either (inl p) = inr p
either (inr q) = inl q

-- the order of two boards doesn't matter
pub either_order : (a b first second : List Recorded) (t : Packed) → IsMerged a b first → IsMerged b a second → mark_in first t ≡ mark_in second t
either_order a b first second t one other = one_mark (mark_in first t) (mark_in second t)
    (λ v. (
      λ e. sym (verdict_is second t) ∙ (other.verdicts t v).1 (either ((one.verdicts t v).0 (verdict_is first t ∙ e))),
      λ e. sym (verdict_is first t) ∙ (one.verdicts t v).1 (either ((other.verdicts t v).0 (verdict_is second t ∙ e))),
    )) (
      λ e. let h = (one.holdouts t).0 e in (other.holdouts t).1 (either h.0, h.2, h.1),
      λ e. let h = (other.holdouts t).0 e in (one.holdouts t).1 (either h.0, h.2, h.1),
    )
