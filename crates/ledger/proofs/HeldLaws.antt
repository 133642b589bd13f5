-- What keeps a list held, and that each of its tables has one record at most.
use Rattle.std.proofs.Common.{◌≡◌, ℕ, true, false, cond, List, [], ◌∷◌, ◌++◌, Option, Some, None, option_map, inl, inr, refl, sym, ◌∙◌, ap, subst, append_assoc, append-nil, IfSome, ◌⊎◌, ◌≢◌, zero, suc, Bool, map, get_or, arith}
use Rattle.std.specs.List.{All, Contains, AllPairs, filter}
use Rattle.std.proofs.lemmas.List.Elements.{All-append, All-cons, All-nil, All-contains_itself}
use Rattle.std.proofs.lemmas.List.Kept.{AllPairs-cons}
use Rattle.kind_evidence.specs.Terms.{IsTrueOf}
use Rattle.kind_evidence.specs.declared.verdicts.Verdict.{Verdict}
use Rattle.machine_text.specs.Terms.{Packed, IsTable, entry_of}
use Rattle.law_tree.specs.Terms.{Mark, Halting, Holdout, IsOpen}
use Rattle.cert.specs.Terms.{Claim, Recorded, Stands, shown_by, IsCertified, with_score}
use Rattle.ledger.specs.Records.{same_table, claim_in, mark_in, mark_of, verdict_in, shown_where, IsFit, AreFitAfter, HasScore, IsHeld, Resolves, resolved}
use Rattle.cert.proofs.Claims.{scored_twice}
use Rattle.ledger.proofs.Claims.{same_is, not_same, apart, all_first, all_rest, claim_here, claim_past, claim_none, claim_kept, claim_more, settled_here, settled_past, same_at}

-- What is true of every held list, and what keeps a list held.

-- a certified record of a table
abbrev of_table : Packed → Claim → Recorded
of_table t c = record { table = t; claim = c }

-- each claim of records that are fit in their turn is certified
certified_after : (root : Packed) (earlier rs : List Recorded) (t : Packed) (c : Claim) → AreFitAfter root earlier rs → claim_in rs t ≡ Some c → IsCertified (of_table t c)
certified_after root earlier [] t c fit is = let none = claim_none t in cc
certified_after root earlier (r ∷ rs) t c fit is =
    elim (same_table r.table t) as (λ v. same_table r.table t ≡ v → IsCertified (of_table t c)) [
      | true ↦ λ same.
          let table : r.table ≡ t = same_is r.table t same in
          let claimed = claim_here r rs t same in
          let claim : r.claim ≡ c = cc in
          subst (λ (p : Packed). IsCertified (of_table p c)) table (subst (λ (d : Claim). IsCertified (of_table r.table d)) claim fit.0.certified)
      | false ↦ λ other. certified_after root (earlier ++ (r ∷ [])) rs t c fit.1 (sym (claim_past r rs t other) ∙ is)
    ] refl

pub held_certified : (root : Packed) (rs : List Recorded) (t : Packed) (c : Claim) → IsHeld root rs → claim_in rs t ≡ Some c → IsCertified (of_table t c)
held_certified root rs t c held is = certified_after root [] rs t c held.fit is

pub held_stands : (root : Packed) (rs : List Recorded) (t : Packed) (c : Claim) → IsHeld root rs → claim_in rs t ≡ Some c → Stands c t
held_stands root rs t c held is = (held_certified root rs t c held is).stands

-- so a recorded verdict is true of its table, by the law that a standing claim makes its verdict true
pub verdict_true : (root : Packed) (rs : List Recorded) (t : Packed) → IsHeld root rs → IsTable t
    → ((c : Claim) (p : Packed) → IsTable p → Stands c p → IfSome (shown_by c p) (λ (v : Verdict). IsTrueOf v (entry_of p)))
    → IfSome (verdict_in rs t) (λ (v : Verdict). IsTrueOf v (entry_of t))
verdict_true root rs t held is_table law =
    elim (claim_in rs t) as (λ o. claim_in rs t ≡ o → IfSome (shown_where t o) (λ (v : Verdict). IsTrueOf v (entry_of t))) [
      | None ↦ λ none. tt
      | Some c ↦ λ is. law c t is_table (held_stands root rs t c held is)
    ] refl

-- a further fit record keeps a list held
fit_more : (root : Packed) (earlier rs : List Recorded) (r : Recorded) → AreFitAfter root earlier rs → IsFit root (earlier ++ rs) r → AreFitAfter root earlier (rs ++ (r ∷ []))
fit_more root earlier [] r fit last = (subst (λ (l : List Recorded). IsFit root l r) (append-nil earlier) last, tt)
fit_more root earlier (x ∷ rs) r fit last =
    (fit.0, fit_more root (earlier ++ (x ∷ [])) rs r fit.1 (subst (λ (l : List Recorded). IsFit root l r) (sym (append_assoc earlier (x ∷ []) rs)) last))

pub held_more : (root : Packed) (rs : List Recorded) (r : Recorded) → IsHeld root rs → IsFit root rs r → HasScore r → IsHeld root (rs ++ (r ∷ []))
held_more root rs r held fit scored =
    record { fit = fit_more root [] rs r held.fit fit; scored = All-append HasScore rs (r ∷ []) held.scored (All-cons HasScore r [] scored (All-nil HasScore)) }

-- what is fit after some records is fit after others that say no less of halting, and nothing where those say nothing
record IsRefined (old new : List Recorded) : Type 0 where
  none : (t : Packed) → claim_in old t ≡ None → claim_in new t ≡ None
  stopping : (t : Packed) (k : ℕ) → mark_in old t ≡ Some (Halting k) → mark_in new t ≡ Some (Halting k)

pub unmarked : (o : Option Claim) → option_map mark_of o ≡ None → o ≡ None
unmarked None e = refl
unmarked (Some c) e = cc

still_open : (root : Packed) (old new : List Recorded) (t : Packed) → IsRefined old new → IsOpen root (mark_in old) t → IsOpen root (mark_in new) t
still_open root old new t refined is_open = record {
  unmarked = ap (option_map mark_of) (refined.none t (unmarked (claim_in old t) is_open.unmarked));
  place = elim is_open.place [ inl e ↦ inl e | inr w ↦ inr (w.0, w.1, refined.stopping w.0 w.1 w.2, w.3) ];
}

pub mark_kept : (rs ys : List Recorded) (t : Packed) (m : Mark) → mark_in rs t ≡ Some m → mark_in (rs ++ ys) t ≡ Some m
mark_kept rs ys t m is =
    elim (claim_in rs t) as (λ o. claim_in rs t ≡ o → mark_in (rs ++ ys) t ≡ Some m) [
      | Some c ↦ λ claimed. ap (option_map mark_of) (claim_kept rs ys t c claimed ∙ sym claimed) ∙ is
      | None ↦ λ none. let no = ap (option_map mark_of) none in cc
    ] refl

mark_more : (rs ys : List Recorded) (t : Packed) → claim_in rs t ≡ None → mark_in (rs ++ ys) t ≡ mark_in ys t
mark_more rs ys t none = ap (option_map mark_of) (claim_more rs ys t none)

-- where nothing is claimed by the longer list, nothing is by its two parts
pub none_before : (rs ys : List Recorded) (t : Packed) → claim_in (rs ++ ys) t ≡ None → (claim_in rs t ≡ None) × (claim_in ys t ≡ None)
none_before rs ys t none =
    elim (claim_in rs t) as (λ o. claim_in rs t ≡ o → (claim_in rs t ≡ None) × (claim_in ys t ≡ None)) [
      | Some c ↦ λ is. let kept = claim_kept rs ys t c is in (cc, cc)
      | None ↦ λ no. (no, sym (claim_more rs ys t no) ∙ none)
    ] refl

-- the mark of a stopping table in a longer list stands in its first part, or there is nothing there and it stands in the rest
stopping_where : (rs ys : List Recorded) (t : Packed) (k : ℕ) → mark_in (rs ++ ys) t ≡ Some (Halting k)
    → (mark_in rs t ≡ Some (Halting k)) ⊎ ((claim_in rs t ≡ None) × (mark_in ys t ≡ Some (Halting k)))
stopping_where rs ys t k is =
    elim (claim_in rs t) as (λ o. claim_in rs t ≡ o → (mark_in rs t ≡ Some (Halting k)) ⊎ ((claim_in rs t ≡ None) × (mark_in ys t ≡ Some (Halting k)))) [
      | Some c ↦ λ claimed. inl (ap (option_map mark_of) (claimed ∙ sym (claim_kept rs ys t c claimed)) ∙ is)
      | None ↦ λ none. inr (none, sym (mark_more rs ys t none) ∙ is)
    ] refl

refined_more : (old new ys : List Recorded) → IsRefined old new → IsRefined (old ++ ys) (new ++ ys)
refined_more old new ys refined = record {
  none = λ t e. let parts = none_before old ys t e in claim_more new ys t (refined.none t parts.0) ∙ parts.1;
  stopping = λ t k e. elim (stopping_where old ys t k e) [
    | inl here ↦ mark_kept new ys t (Halting k) (refined.stopping t k here)
    | inr later ↦ mark_more new ys t (refined.none t later.0) ∙ later.1
  ];
}

-- one record of a holdout and another of the same table
swapped_none : (x r : Recorded) (t : Packed) → x.table ≡ r.table → claim_in (x ∷ []) t ≡ None → claim_in (r ∷ []) t ≡ None
swapped_none x r t same none =
    elim (same_table x.table t) as (λ v. same_table x.table t ≡ v → claim_in (r ∷ []) t ≡ None) [
      | true ↦ λ here. let claimed = claim_here x [] t here in cc
      | false ↦ λ other. claim_past r [] t (not_same r.table t (λ (e : r.table ≡ t). apart x.table t other (same ∙ e))) ∙ claim_none t
    ] refl

holdout_alone : (x : Recorded) (t : Packed) (k : ℕ) → mark_of x.claim ≡ Holdout → mark_in (x ∷ []) t ≡ Some (Halting k) → ⊥
holdout_alone x t k holdout is =
    elim (same_table x.table t) as (λ v. same_table x.table t ≡ v → ⊥) [
      | true ↦ λ here. let claimed = ap (option_map mark_of) (claim_here x [] t here) in cc
      | false ↦ λ other. let none = ap (option_map mark_of) (claim_past x [] t other ∙ claim_none t) in cc
    ] refl

refined_swap : (old : List Recorded) (x r : Recorded) → x.table ≡ r.table → mark_of x.claim ≡ Holdout → IsRefined (old ++ (x ∷ [])) (old ++ (r ∷ []))
refined_swap old x r same holdout = record {
  none = λ t e. let parts = none_before old (x ∷ []) t e in claim_more old (r ∷ []) t parts.0 ∙ swapped_none x r t same parts.1;
  stopping = λ t k e. elim (stopping_where old (x ∷ []) t k e) [
    | inl here ↦ mark_kept old (r ∷ []) t (Halting k) here
    | inr later ↦ absurd (holdout_alone x t k holdout later.1)
  ];
}

fit_refined : (root : Packed) (old new rs : List Recorded) → IsRefined old new → AreFitAfter root old rs → AreFitAfter root new rs
fit_refined root old new [] refined fit = tt
fit_refined root old new (x ∷ rs) refined fit = (
  record { is_open = still_open root old new x.table refined fit.0.is_open; certified = fit.0.certified },
  fit_refined root (old ++ (x ∷ [])) (new ++ (x ∷ [])) rs (refined_more old new (x ∷ []) refined) fit.1,
)

-- a resolving record keeps a list held
fit_settled : (root : Packed) (earlier rs : List Recorded) (r : Recorded) (c : Claim) → AreFitAfter root earlier rs → claim_in rs r.table ≡ Some c → mark_of c ≡ Holdout → IsCertified r
    → AreFitAfter root earlier (resolved rs r)
fit_settled root earlier [] r c fit is holdout certified = let none = claim_none r.table in cc
fit_settled root earlier (x ∷ rs) r c fit is holdout certified =
    elim (same_table x.table r.table) as (λ v. same_table x.table r.table ≡ v → AreFitAfter root earlier (resolved (x ∷ rs) r)) [
      | true ↦ λ here.
          let same : x.table ≡ r.table = same_is x.table r.table here in
          let claimed = claim_here x rs r.table here in
          let claim : x.claim ≡ c = cc in
          let now : IsFit root earlier r = record { is_open = subst (IsOpen root (mark_in earlier)) same fit.0.is_open; certified = certified } in
          let later = fit_refined root (earlier ++ (x ∷ [])) (earlier ++ (r ∷ [])) rs (refined_swap earlier x r same (ap mark_of claim ∙ holdout)) fit.1 in
          subst (AreFitAfter root earlier) (sym (settled_here x rs r here)) (now, later)
      | false ↦ λ other.
          let later = fit_settled root (earlier ++ (x ∷ [])) rs r c fit.1 (sym (claim_past x rs r.table other) ∙ is) holdout certified in
          subst (AreFitAfter root earlier) (sym (settled_past x rs r other)) (fit.0, later)
    ] refl

-- with its score a record has it; and scores stay where a record is resolved
pub scored_has : (r : Recorded) → HasScore (with_score r)
scored_has r = ap (λ (c : Claim). record { table = r.table; claim = c }) (scored_twice r.table r.claim)

scores_settled : (rs : List Recorded) (r : Recorded) → All HasScore rs → HasScore r → All HasScore (resolved rs r)
unfolding resolved
scores_settled [] r all scored = All-nil HasScore
scores_settled (x ∷ xs) r all scored =
    elim (same_table x.table r.table) as (λ v. All HasScore (cond v (r ∷ xs) (x ∷ resolved xs r))) [
      | true ↦ All-cons HasScore r xs scored (all_rest HasScore x xs all)
      | false ↦ All-cons HasScore x (resolved xs r) (all_first HasScore x xs all) (scores_settled xs r (all_rest HasScore x xs all) scored)
    ]

none_marked : {o : Option Mark} {m : Mark} → o ≡ Some m → o ≡ None → ⊥
none_marked some none = cc

pub held_settled : (root : Packed) (rs : List Recorded) (r : Recorded) → IsHeld root rs → Resolves rs r → HasScore r → IsHeld root (resolved rs r)
held_settled root rs r held resolves scored =
    elim (claim_in rs r.table) as (λ o. claim_in rs r.table ≡ o → IsHeld root (resolved rs r)) [
      | Some c ↦ λ is.
          let marked = ap (option_map mark_of) (sym is) ∙ resolves.is_holdout in
          let holdout : mark_of c ≡ Holdout = cc in
          record { fit = fit_settled root [] rs r c held.fit is holdout resolves.certified; scored = scores_settled rs r held.scored scored }
      | None ↦ λ none. let marked = ap (option_map mark_of) none in absurd (none_marked resolves.is_holdout marked)
    ] refl

-- Each table has one record at most, so records can be counted by their tables.

-- the members of a list with one more at its front
pub first_or_later : {X : Type 0} (x : X) (xs : List X) (y : X) → Contains (x ∷ xs) y → (x ≡ y) ⊎ Contains xs y
first_or_later x xs y (zero, below, is) = inl is
first_or_later x xs y (suc k, below, is) = inr (k, omega arith, is)

pub later_member : {X : Type 0} (x : X) (xs : List X) (y : X) → Contains xs y → Contains (x ∷ xs) y
later_member x xs y (k, below, is) = (suc k, omega arith, is)

pub first_member : {X : Type 0} (x y : X) (xs : List X) → x ≡ y → Contains (x ∷ xs) y
first_member x y xs is = (0, omega arith, is)

no_member : {X : Type 0} {y : X} → Contains [] y → ⊥
no_member (k, below, is) = omega arith

-- what holds of each member holds of each place
pub all_members : {X : Type 0} (P : X → Type 0) (xs : List X) → ((x : X) → Contains xs x → P x) → All P xs
all_members P xs h = λ k d below. h (get_or xs k d) (All-contains_itself xs k d below)

-- each record's table differs from those of the later ones
abbrev pub AreApart : List Recorded → Type 0
AreApart rs = AllPairs (λ (a b : Recorded). a.table ≢ b.table) rs

none_apart : (x : Recorded) (t : Packed) → claim_in (x ∷ []) t ≡ None → x.table ≢ t
none_apart x t none = λ (e : x.table ≡ t). let here = claim_here x [] t (same_at x.table t e) in absurd (cc)

apart_after : (root : Packed) (earlier rs : List Recorded) → AreFitAfter root earlier rs → AreApart rs × All (λ (r : Recorded). claim_in earlier r.table ≡ None) rs
apart_after root earlier [] fit = (λ i j d less below. absurd (omega arith), λ k d below. absurd (omega arith))
apart_after root earlier (x ∷ rs) fit =
    let later = apart_after root (earlier ++ (x ∷ [])) rs fit.1 in
    let none : claim_in earlier x.table ≡ None = unmarked (claim_in earlier x.table) fit.0.is_open.unmarked in (
      AllPairs-cons (λ (a b : Recorded). a.table ≢ b.table) x rs (λ k d below. none_apart x (get_or rs k d).table (none_before earlier (x ∷ []) (get_or rs k d).table (later.1 k d below)).1) later.0,
      All-cons (λ (r : Recorded). claim_in earlier r.table ≡ None) x rs none (λ k d below. (none_before earlier (x ∷ []) (get_or rs k d).table (later.1 k d below)).0),
    )

pub held_apart : (root : Packed) (rs : List Recorded) → IsHeld root rs → AreApart rs
held_apart root rs held = (apart_after root [] rs held.fit).0

-- what is claimed is what the member of the list claims that has the table
pub claim_member : (rs : List Recorded) (t : Packed) (c : Claim) → claim_in rs t ≡ Some c → Contains rs (record { table = t; claim = c })
claim_member [] t c is = let none = claim_none t in absurd (cc)
claim_member (x ∷ xs) t c is =
    elim (same_table x.table t) as (λ v. same_table x.table t ≡ v → Contains (x ∷ xs) (record { table = t; claim = c })) [
      | true ↦ λ same.
          let table : x.table ≡ t = same_is x.table t same in
          let here = claim_here x xs t same in
          let claim : x.claim ≡ c = cc in
          let one : x ≡ record { table = t; claim = c } = ap (λ (p : Packed). record { table = p; claim = x.claim }) table ∙ ap (λ (d : Claim). record { table = t; claim = d }) claim in
          first_member x _ xs one
      | false ↦ λ other. later_member x xs _ (claim_member xs t c (sym (claim_past x xs t other) ∙ is))
    ] refl

pub member_claim : (rs : List Recorded) (r : Recorded) → AreApart rs → Contains rs r → claim_in rs r.table ≡ Some r.claim
member_claim [] r apart at = absurd (no_member at)
member_claim (x ∷ xs) r apart (zero, below, is) = claim_here x xs r.table (same_at x.table r.table (ap (λ (y : Recorded). y.table) is)) ∙ ap (λ (y : Recorded). Some y.claim) is
member_claim (x ∷ xs) r apart (suc k, below, is) =
    let other : x.table ≢ r.table = subst (λ (y : Recorded). x.table ≢ y.table) is (apart 0 (suc k) r (omega arith) (omega arith)) in
    claim_past x xs r.table (not_same x.table r.table other) ∙ member_claim xs r (λ i j d less within. apart (suc i) (suc j) d (omega arith) (omega arith)) (k, omega arith, is)

-- members of a list that is filtered and mapped
filter_yes : {X : Type 0} (p : X → Bool) (x : X) (xs : List X) → p x ≡ true → filter p (x ∷ xs) ≡ x ∷ filter p xs
filter_yes p x xs pass = rw pass

filter_no : {X : Type 0} (p : X → Bool) (x : X) (xs : List X) → p x ≡ false → filter p (x ∷ xs) ≡ filter p xs
filter_no p x xs fails = rw fails

pub chosen_from : {X Y : Type 0} (f : X → Y) (p : X → Bool) (xs : List X) (y : Y) → Contains (map f (filter p xs)) y → (x : X) × Contains xs x × (p x ≡ true) × (f x ≡ y)
chosen_from f p [] y at = absurd (no_member at)
chosen_from {X} f p (x ∷ xs) y at =
    elim (p x) as (λ v. p x ≡ v → (z : X) × Contains (x ∷ xs) z × (p z ≡ true) × (f z ≡ y)) [
      | true ↦ λ pass. elim (first_or_later (f x) (map f (filter p xs)) y (subst (λ (l : List X). Contains (map f l) y) (filter_yes p x xs pass) at)) [
        | inl is ↦ (x, first_member x x xs refl, pass, is)
        | inr later ↦ let w = chosen_from f p xs y later in (w.0, later_member x xs w.0 w.1, w.2, w.3)
      ]
      | false ↦ λ fails. let w = chosen_from f p xs y (subst (λ (l : List X). Contains (map f l) y) (filter_no p x xs fails) at) in (w.0, later_member x xs w.0 w.1, w.2, w.3)
    ] refl

pub chosen : {X Y : Type 0} (f : X → Y) (p : X → Bool) (xs : List X) (x : X) → Contains xs x → p x ≡ true → Contains (map f (filter p xs)) (f x)
chosen f p [] x at pass = absurd (no_member at)
chosen {X} {Y} f p (z ∷ xs) x at pass =
    elim (p z) as (λ v. p z ≡ v → Contains (map f (filter p (z ∷ xs))) (f x)) [
      | true ↦ λ here. subst (λ (l : List X). Contains (map f l) (f x)) (sym (filter_yes p z xs here)) (elim (first_or_later z xs x at) [
        | inl is ↦ first_member (f z) (f x) (map f (filter p xs)) (ap f is)
        | inr later ↦ later_member (f z) (map f (filter p xs)) (f x) (chosen f p xs x later pass)
      ])
      | false ↦ λ other. subst (λ (l : List X). Contains (map f l) (f x)) (sym (filter_no p z xs other)) (elim (first_or_later z xs x at) [
        | inl is ↦ let fails = ap p is in absurd (cc)
        | inr later ↦ chosen f p xs x later pass
      ])
    ] refl

differs : (x : Recorded) (xs : List Recorded) (r : Recorded) → AreApart (x ∷ xs) → Contains xs r → x.table ≢ r.table
differs x xs r apart (k, below, is) = subst (λ (y : Recorded). x.table ≢ y.table) is (apart 0 (suc k) r (omega arith) (omega arith))

-- the tables of chosen records differ
pub chosen_once : (p : Recorded → Bool) (rs : List Recorded) → AreApart rs → AllPairs (λ (a b : Packed). a ≢ b) (map (λ (r : Recorded). r.table) (filter p rs))
chosen_once p [] apart = λ i j d less below. absurd (omega arith)
chosen_once p (x ∷ xs) apart =
    let table : Recorded → Packed = λ r. r.table in
    let rest : AreApart xs = λ i j d less within. apart (suc i) (suc j) d (omega arith) (omega arith) in
    let later = chosen_once p xs rest in
    elim (p x) as (λ v. p x ≡ v → AllPairs (λ (a b : Packed). a ≢ b) (map table (filter p (x ∷ xs)))) [
      | true ↦ λ pass. subst (λ (l : List Recorded). AllPairs (λ (a b : Packed). a ≢ b) (map table l)) (sym (filter_yes p x xs pass))
          (AllPairs-cons (λ (a b : Packed). a ≢ b) x.table (map table (filter p xs))
          (all_members (λ (t : Packed). x.table ≢ t) (map table (filter p xs)) (λ t at. let w = chosen_from table p xs t at in subst (λ (q : Packed). x.table ≢ q) w.3 (differs x xs w.0 apart w.1))) later)
      | false ↦ λ fails. subst (λ (l : List Recorded). AllPairs (λ (a b : Packed). a ≢ b) (map table l)) (sym (filter_no p x xs fails)) later
    ] refl
