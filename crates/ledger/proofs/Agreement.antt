-- The records held of a list agree with its fit records.
use Rattle.std.proofs.Common.{◌≡◌, ◌≢◌, ℕ, true, false, List, [], ◌∷◌, ◌++◌, Option, Some, None, option_map, IsSome, inl, inr, ◌⊎◌, Err, refl, sym, ◌∙◌, ap, subst, arith}
use Rattle.std.specs.Prelude.{fold, map}
use Rattle.std.specs.List.{Contains}
use Rattle.std.proofs.lemmas.List.Elements.{All-nil, Contains-append_left, Contains-append_right, Contains-append_cases}
use Rattle.std.proofs.lemmas.List.{map-append}
use Rattle.std.proofs.lemmas.List.Sums.{fold-append}
use Rattle.std.proofs.lemmas.Option.{same_Some}
use Rattle.machine_text.specs.Terms.{Packed, IsTable}
use Rattle.kind_evidence.specs.declared.verdicts.Ending.{Ending}
use Rattle.kind_evidence.specs.declared.verdicts.Ending.TheVariants.{Halts, Never}
use Rattle.law_tree.specs.Terms.{Mark, Halting, NeverHalting, Holdout, IsVerdict, IsOpen, IsChildTable}
use Rattle.law_tree.proofs.TableLaws.{tree_alike, tree_table_child}
use Rattle.cert.specs.Terms.{Claim, Recorded, MayOverflow, ending_by, IsCertified, scored, with_score}
use Rattle.cert.proofs.Claims.{score_certified, scored_ends, refused_or_certified}
use Rattle.ledger.specs.Records.{same_table, claim_in, mark_in, mark_of, mark_by, HasScore, IsFit, IsHeld, Resolves, resolved}
use Rattle.ledger.specs.Offers.{OfferGives, IsKnown}
use Rattle.ledger.specs.Lists.{HasPlace, IsFitAfter, placed, held}
use Rattle.ledger.specs.declared.faults.OfferFault.{OfferFault}
use Rattle.ledger.specs.declared.faults.OfferFault.TheVariants.{WrongSize, NotOpen, Refused as IsRefused, NoMemory}
use Rattle.ledger.proofs.Claims.{same_is, apart, claim_here, claim_past, claim_none, settled_here, settled_past}
use Rattle.ledger.proofs.HeldLaws.{unmarked, held_more, held_settled, scored_has, first_member, first_or_later}
use Rattle.ledger.proofs.OpenLaws.{IsTaken, taken_new, taken_settled, stopping_verdict, open_in_tree, recorded_in_tree}
use Rattle.ledger.proofs.BoardLaws.{holdout_claim}

-- the records rs are those held of the fit records ks, and say of each table what these say with its score
pub record Agree (root : Packed) (ks rs : List Recorded) : Type 0 where
  pub is_held : IsHeld root rs
  pub is : rs ≡ held ks
  pub none : (t : Packed) → claim_in rs t ≡ None → (e : Recorded) → Contains ks e → e.table ≢ t
  pub some : (t : Packed) (c : Claim) → claim_in rs t ≡ Some c → (e : Recorded) × Contains ks e × (e.table ≡ t) × (c ≡ scored t e.claim)
  pub verdict : (e : Recorded) → Contains ks e → IsSome (ending_by e.claim) → claim_in rs e.table ≡ Some (scored e.table e.claim)
  pub places : (e : Recorded) → Contains ks e → HasPlace root ks e.table

nobody : {X : Type 0} {x : X} → Contains [] x → ⊥
nobody (k, below, is) = omega arith

no_some : (o : Option Ending) → IsSome o → o ≡ None → ⊥
no_some None some e = cc
no_some (Some v) some e = cc

pub agree_none : (root : Packed) → Agree root [] []
agree_none root = record {
  is_held = record { fit = tt; scored = All-nil HasScore };
  is = refl;
  none = λ t is e at. absurd (nobody at);
  some = λ t c is. let gone = claim_none t in absurd (cc);
  verdict = λ e at shown. absurd (nobody at);
  places = λ e at. absurd (nobody at);
}

-- a record is put last, or resolves
placed_past : (x : Recorded) (xs : List Recorded) (r : Recorded) → same_table x.table r.table ≡ false → placed (x ∷ xs) r ≡ x ∷ placed xs r
unfolding placed
placed_past x xs r other = rw other

placed_here : (x : Recorded) (xs : List Recorded) (r : Recorded) → same_table x.table r.table ≡ true → placed (x ∷ xs) r ≡ r ∷ xs
unfolding placed
placed_here x xs r same = rw same

placed_last : (rs : List Recorded) (r : Recorded) → claim_in rs r.table ≡ None → placed rs r ≡ rs ++ (r ∷ [])
unfolding placed
placed_last [] r none = refl
placed_last (x ∷ xs) r none =
    elim (same_table x.table r.table) as (λ v. same_table x.table r.table ≡ v → placed (x ∷ xs) r ≡ x ∷ (xs ++ (r ∷ []))) [
      | true ↦ λ here. let claimed = claim_here x xs r.table here in absurd (cc)
      | false ↦ λ other. placed_past x xs r other ∙ ap (λ (l : List Recorded). x ∷ l) (placed_last xs r (sym (claim_past x xs r.table other) ∙ none))
    ] refl

placed_settles : (rs : List Recorded) (r : Recorded) (c : Claim) → claim_in rs r.table ≡ Some c → placed rs r ≡ resolved rs r
placed_settles [] r c is = let none = claim_none r.table in absurd (cc)
placed_settles (x ∷ xs) r c is =
    elim (same_table x.table r.table) as (λ v. same_table x.table r.table ≡ v → placed (x ∷ xs) r ≡ resolved (x ∷ xs) r) [
      | true ↦ λ here. placed_here x xs r here ∙ sym (settled_here x xs r here)
      | false ↦ λ other.
          placed_past x xs r other ∙ (ap (λ (l : List Recorded). x ∷ l) (placed_settles xs r c (sym (claim_past x xs r.table other) ∙ is)) ∙ sym (settled_past x xs r other))
    ] refl

-- places stay
place_more : (root : Packed) (ks : List Recorded) (r : Recorded) (t : Packed) → HasPlace root ks t → HasPlace root (ks ++ (r ∷ [])) t
place_more root ks r t (inl e) = inl e
place_more root ks r t (inr w) = inr (w.0, w.1, Contains-append_left ks (r ∷ []) w.0 w.2, w.3, w.4)

alone : (r e : Recorded) → Contains (r ∷ []) e → r ≡ e
alone r e at = elim (first_or_later r [] e at) [ inl is ↦ is | inr later ↦ absurd (nobody later) ]

-- one more fit record
agree_more : (root : Packed) (ks rs new : List Recorded) (r : Recorded) → Agree root ks rs → IsTaken rs new (with_score r) → IsHeld root new → new ≡ placed rs (with_score r)
    → ((c : Claim) → claim_in rs r.table ≡ Some c → ending_by c ≡ None) → HasPlace root ks r.table → Agree root (ks ++ (r ∷ [])) new
agree_more root ks rs new r agree taken is_held is unsettled place =
    let last : Contains (ks ++ (r ∷ [])) r = Contains-append_right ks (r ∷ []) r (first_member r r [] refl) in record {
      is_held = is_held;
      is = is ∙ (ap (λ (l : List Recorded). placed l (with_score r)) agree.is
          ∙ (sym (fold-append placed [] (map with_score ks) (with_score r ∷ [])) ∙ ap (fold placed []) (sym (map-append with_score ks (r ∷ [])))));
      none = λ t gone e at.
          let other : r.table ≢ t = λ (same : r.table ≡ t). let here = subst (λ (p : Packed). claim_in new p ≡ Some (scored p r.claim)) same taken.here in absurd (cc) in
          elim (Contains-append_cases ks (r ∷ []) e at) [
            | inl before ↦ agree.none t (sym (taken.others t (λ (same : t ≡ r.table). other (sym same))) ∙ gone) e before
            | inr now ↦ subst (λ (x : Recorded). x.table ≢ t) (alone r e now) other
          ];
      some = λ t c claimed. elim (same_table r.table t) as (λ v. same_table r.table t ≡ v → (e : Recorded) × Contains (ks ++ (r ∷ [])) e × (e.table ≡ t) × (c ≡ scored t e.claim)) [
        | true ↦ λ same.
            let table : r.table ≡ t = same_is r.table t same in
            let here = subst (λ (p : Packed). claim_in new p ≡ Some (scored p r.claim)) table taken.here in
            (r, last, table, same_Some c (scored t r.claim) (sym claimed ∙ here))
        | false ↦ λ other.
            let past : t ≢ r.table = λ (same : t ≡ r.table). apart r.table t other (sym same) in
            let w = agree.some t c (sym (taken.others t past) ∙ claimed) in
            (w.0, Contains-append_left ks (r ∷ []) w.0 w.1, w.2, w.3)
      ] refl;
      verdict = λ e at shown. elim (Contains-append_cases ks (r ∷ []) e at) [
        | inl before ↦
            let claimed = agree.verdict e before shown in
            let past : e.table ≢ r.table = λ (same : e.table ≡ r.table).
            let none = unsettled (scored e.table e.claim) (subst (λ (p : Packed). claim_in rs p ≡ Some (scored e.table e.claim)) same claimed) in
            absurd (no_some (ending_by e.claim) shown (sym (scored_ends e.table e.claim) ∙ none)) in
            taken.others e.table past ∙ claimed
        | inr now ↦ subst (λ (x : Recorded). claim_in new x.table ≡ Some (scored x.table x.claim)) (alone r e now) taken.here
      ];
      places = λ e at. elim (Contains-append_cases ks (r ∷ []) e at) [
        | inl before ↦ place_more root ks r e.table (agree.places e before)
        | inr now ↦ subst (λ (x : Recorded). HasPlace root (ks ++ (r ∷ [])) x.table) (alone r e now) (place_more root ks r r.table place)
      ];
    }

-- the mark of a table by a fit record, and back
marked_halting : (root : Packed) (ks rs : List Recorded) (p : Recorded) (k : ℕ) → Agree root ks rs → Contains ks p → ending_by p.claim ≡ Some (Halts k) → mark_in rs p.table ≡ Some (Halting k)
marked_halting root ks rs p k agree at shown =
    ap (option_map mark_of) (agree.verdict p at (subst (λ (o : Option Ending). IsSome o) (sym shown) refl)) ∙ ap (λ (o : Option Ending). Some (mark_by o)) (scored_ends p.table p.claim ∙ shown)

marked_by : (rs : List Recorded) (t : Packed) (k : ℕ) → mark_in rs t ≡ Some (Halting k) → (c : Claim) × (claim_in rs t ≡ Some c) × (ending_by c ≡ Some (Halts k))
marked_by rs t k marked =
    elim (claim_in rs t) as (λ o. claim_in rs t ≡ o → (c : Claim) × (claim_in rs t ≡ Some c) × (ending_by c ≡ Some (Halts k))) [
      | Some c ↦ λ is. let same = ap (option_map mark_of) (sym is) ∙ marked in (c, is, stopping_verdict (ending_by c) k cc)
      | None ↦ λ none. let same = ap (option_map mark_of) (sym none) ∙ marked in absurd (cc)
    ] refl

is_holdout : (o : Option Ending) → o ≡ None → mark_by o ≡ Holdout
is_holdout None e = refl
is_holdout (Some v) e = cc

no_verdict : (o : Option Ending) → mark_by o ≡ Holdout → o ≡ None
no_verdict None e = refl
no_verdict (Some (Halts k)) e = cc
no_verdict (Some Never) e = cc

some_verdict : (o : Option Ending) → (o ≡ None → ⊥) → IsSome o
some_verdict None never = absurd (never refl)
some_verdict (Some v) never = refl

-- fit by the list is fit for the records that are held, or resolves one of them
pub fit_now : (root : Packed) (ks rs : List Recorded) (r : Recorded) → Agree root ks rs → IsFitAfter root ks r → IsFit root rs r ⊎ Resolves rs r
fit_now root ks rs r agree fit =
    elim (claim_in rs r.table) as (λ o. claim_in rs r.table ≡ o → IsFit root rs r ⊎ Resolves rs r) [
      | None ↦ λ gone. inl (record {
        is_open = record {
          unmarked = ap (option_map mark_of) gone;
          place = elim fit.place [ inl e ↦ inl e | inr w ↦ inr (w.0.table, w.1, marked_halting root ks rs w.0 w.1 agree w.2 w.3, w.4) ];
        };
        certified = fit.certified;
      })
      | Some c ↦ λ claimed.
          let at = agree.some r.table c claimed in
          let none : ending_by c ≡ None = ap ending_by at.3 ∙ (scored_ends r.table at.0.claim ∙ fit.no_verdict at.0 at.1 at.2) in
          inr (record {
            is_holdout = ap (option_map mark_of) claimed ∙ ap (λ (m : Mark). Some m) (is_holdout (ending_by c) none);
            verdict = some_verdict (ending_by r.claim) (λ bare. fit.not_again bare at.0 at.1 at.2);
            certified = fit.certified;
          })
    ] refl

open_place : (root : Packed) (ks rs : List Recorded) (t : Packed) → Agree root ks rs → IsOpen root (mark_in rs) t → HasPlace root ks t
open_place root ks rs t agree is_open = elim is_open.place [
  | inl e ↦ inl e
  | inr w ↦
      let c = marked_by rs w.0 w.1 w.2 in
      let at = agree.some w.0 c.0 c.1 in
      inr (at.0, w.1, at.1, sym (scored_ends w.0 at.0.claim) ∙ (ap ending_by (sym at.3) ∙ c.2), subst (λ (p : Packed). IsChildTable p t) (sym at.2) w.3)
]

-- and back
pub new_fit : (root : Packed) (ks rs : List Recorded) (r : Recorded) → Agree root ks rs → IsFit root rs r → IsFitAfter root ks r
new_fit root ks rs r agree fit =
    let gone = unmarked (claim_in rs r.table) fit.is_open.unmarked in record {
      place = open_place root ks rs r.table agree fit.is_open;
      no_verdict = λ e at same. absurd (agree.none r.table gone e at same);
      not_again = λ bare e at. agree.none r.table gone e at;
      certified = fit.certified;
    }

pub settling_fit : (root : Packed) (ks rs : List Recorded) (r : Recorded) → Agree root ks rs → Resolves rs r → IsFitAfter root ks r
settling_fit root ks rs r agree resolves =
    let c = holdout_claim rs r.table resolves.is_holdout in
    let none : ending_by c.0 ≡ None = no_verdict (ending_by c.0) c.2 in
    let there = agree.some r.table c.0 c.1 in
    record {
      place = subst (HasPlace root ks) there.2 (agree.places there.0 there.1);
      no_verdict = λ e at same.
          elim (ending_by e.claim) as (λ o. ending_by e.claim ≡ o → o ≡ None) [
            | None ↦ λ is. refl
            | Some v ↦ λ is.
                let claimed = subst (λ (p : Packed). claim_in rs p ≡ Some (scored p e.claim)) same (agree.verdict e at (subst (λ (o : Option Ending). IsSome o) (sym is) refl)) in
                let claim : scored r.table e.claim ≡ c.0 = same_Some (scored r.table e.claim) c.0 (sym claimed ∙ c.1) in
                let shown = sym (scored_ends r.table e.claim) ∙ (ap ending_by claim ∙ none) in absurd (cc)
          ] refl;
      not_again = λ bare. absurd (no_some (ending_by r.claim) resolves.verdict bare);
      certified = resolves.certified;
    }

-- what is fit or resolves does so with its score
pub fit_scored : (root : Packed) (rs : List Recorded) (r : Recorded) → IsFit root rs r → IsFit root rs (with_score r)
fit_scored root rs r fit = record { is_open = fit.is_open; certified = score_certified r fit.certified }

pub settles_scored : (rs : List Recorded) (r : Recorded) → Resolves rs r → Resolves rs (with_score r)
settles_scored rs r resolves = record {
  is_holdout = resolves.is_holdout;
  verdict = subst (λ (o : Option Ending). IsSome o) (sym (scored_ends r.table r.claim)) resolves.verdict;
  certified = score_certified r resolves.certified;
}

-- a fit record is taken, and the records agree with one more
pub agree_new : (root : Packed) (ks rs : List Recorded) (r : Recorded) → Agree root ks rs → IsFit root rs r → Agree root (ks ++ (r ∷ [])) (rs ++ (with_score r ∷ []))
agree_new root ks rs r agree fit =
    let gone = unmarked (claim_in rs r.table) fit.is_open.unmarked in
    agree_more root ks rs (rs ++ (with_score r ∷ [])) r agree (taken_new rs (with_score r) gone) (held_more root rs (with_score r) agree.is_held (fit_scored root rs r fit) (scored_has r)) (sym (placed_last rs (with_score r) gone)) (λ c is. absurd (cc)) (open_place root ks rs r.table agree fit.is_open)

pub agree_settled : (root : Packed) (ks rs : List Recorded) (r : Recorded) → Agree root ks rs → Resolves rs r → Agree root (ks ++ (r ∷ [])) (resolved rs (with_score r))
agree_settled root ks rs r agree resolves =
    let c = holdout_claim rs r.table resolves.is_holdout in
    let none : ending_by c.0 ≡ None = no_verdict (ending_by c.0) c.2 in
    agree_more root ks rs (resolved rs (with_score r)) r agree (taken_settled rs (with_score r) c.0 c.1 c.2) (held_settled root rs (with_score r) agree.is_held (settles_scored rs r resolves) (scored_has r))
    (sym (placed_settles rs (with_score r) c.0 c.1))
    (λ d is. let same : c.0 ≡ d = cc (c.1, is) in subst (λ (x : Claim). ending_by x ≡ None) same none)
    (settling_fit root ks rs r agree resolves).place

-- what is fit now is taken, unless memory is refused or its check may overflow
fit_states : (root : Packed) (rs : List Recorded) (r : Recorded) → IsTable root → IsHeld root rs → IsFit root rs r ⊎ Resolves rs r → r.table.states ≡ root.states
fit_states root rs r table is_held (inl fit) = (tree_alike root r.table table (open_in_tree root rs r.table tree_table_child is_held fit.is_open)).states
fit_states root rs r table is_held (inr resolves) =
    let c = holdout_claim rs r.table resolves.is_holdout in (tree_alike root r.table table (recorded_in_tree root rs r.table c.0 tree_table_child is_held c.1)).states

fit_certified : (root : Packed) (rs : List Recorded) (r : Recorded) → IsFit root rs r ⊎ Resolves rs r → IsCertified r
fit_certified root rs r (inl fit) = fit.certified
fit_certified root rs r (inr resolves) = resolves.certified

verdict_marked : (o : Option Mark) → IsVerdict o → o ≡ None → ⊥
verdict_marked None v e = v
verdict_marked (Some m) v e = cc

verdict_holdout : (o : Option Mark) → IsVerdict o → o ≡ Some Holdout → ⊥
verdict_holdout None v e = v
verdict_holdout (Some (Halting k)) v e = cc
verdict_holdout (Some NeverHalting) v e = cc
verdict_holdout (Some Holdout) v e = v

pub fit_or_known : (root : Packed) (rs : List Recorded) (r : Recorded) → IsFit root rs r ⊎ Resolves rs r → IsKnown rs r → ⊥
fit_or_known root rs r (inl fit) known = elim known.is [
  | inl v ↦ verdict_marked (mark_in rs r.table) v fit.is_open.unmarked
  | inr h ↦ let gone = fit.is_open.unmarked in let there = h.0 in absurd (cc)
]
fit_or_known root rs r (inr resolves) known = elim known.is [
  | inl v ↦ verdict_holdout (mark_in rs r.table) v resolves.is_holdout
  | inr h ↦ no_some (ending_by r.claim) resolves.verdict h.1
]

pub fit_or_refused : (root : Packed) (rs : List Recorded) (r : Recorded) (f : OfferFault) (new : List Recorded) → IsTable root → IsHeld root rs → IsFit root rs r ⊎ Resolves rs r
    → OfferGives root rs r (Err f) new → f ≢ NoMemory → MayOverflow r.claim r.table
fit_or_refused root rs r WrongSize new table is_held fit gives no_memory = absurd (gives.0 (fit_states root rs r table is_held fit))
fit_or_refused root rs r NotOpen new table is_held (inl fit) gives no_memory = absurd (gives.1.not_open fit.is_open)
fit_or_refused root rs r NotOpen new table is_held (inr resolves) gives no_memory =
    let c = holdout_claim rs r.table resolves.is_holdout in let gone = gives.1.unrecorded in let there = c.1 in absurd (cc)
fit_or_refused root rs r (IsRefused f) new table is_held fit gives no_memory = refused_or_certified f r gives.1 (fit_certified root rs r fit)
fit_or_refused root rs r NoMemory new table is_held fit gives no_memory = absurd (no_memory refl)
