-- What a report tells of one record alone, and lists that have exactly the tables of a kind.
use Rattle.std.proofs.Common.{◌≡◌, ◌≢◌, suc, List, [], ◌∷◌, ◌++◌, length, inl, inr, ◌⊎◌, ◌↔◌, refl, sym, subst, arith, ℕ, true, false, Option, Some, None, option_map, ◌∙◌, ap, IsSome}
use Rattle.std.specs.List.{Contains, All, AllPairs}
use Rattle.std.proofs.lemmas.List.Elements.{All-contains, Contains-append_left, Contains-append_right, Contains-append_cases, Contains-push_cases, All-cons, All-nil}
use Rattle.std.proofs.lemmas.List.Kept.{AllPairs-cons}
use Rattle.machine_text.specs.Terms.{Packed, IsTable, entry_of}
use Rattle.ledger.specs.Terms.{AreSoMany, HaltsAfter, HasOnes, IsHalting, IsNeverHalting, IsChampion, IsOnesChampion, mark_in, mark_of, mark_by, same_table, HasScore, IsHeld, IsHoldout}
use Rattle.ledger.proofs.HeldLaws.{first_or_later, first_member, later_member, all_members}
use Rattle.totals.specs.Totals.{AreExactly, AreTotals}
use Rattle.machine_text.specs.declared.table.Pair.{Pair}
use Rattle.law_turing.specs.Terms.{score_at}
use Rattle.kind_evidence.specs.declared.verdicts.Ending.{Ending}
use Rattle.kind_evidence.specs.declared.verdicts.Ending.TheVariants.{Halts}
use Rattle.law_tree.specs.Terms.{Mark, Halting, NeverHalting, Holdout, IsOpen, IsChildTable, Itself}
use Rattle.cert.specs.Terms.{Claim, HaltsClaim, NeverClaim, NoClaim, Recorded, ending_by, shown_by, IsCertified, IsPairOf}
use Rattle.ledger.proofs.Amounts.{none_many}
use Rattle.ledger.proofs.Ancestors.{no_way_up}
use Rattle.ledger.proofs.Claims.{claim_here, claim_past, claim_none, same_is, same_itself, not_same}
use Rattle.ledger.proofs.OpenLaws.{pair_halts, no_pair, stopping_verdict}
use Rattle.totals.specs.inside.{AreOpenedBy, totals_of_one}

-- Lists that have exactly the tables of a kind, each once.

-- the tables of a kind are so many
pub many_of : (K : Packed → Type 0) (xs : List Packed) → AreExactly K xs → AreSoMany K (length xs)
many_of K xs x = record { tables = xs; exact = x.exact; once = x.once; is = refl }

-- a kind said otherwise
pub exactly_same : (K M : Packed → Type 0) (xs : List Packed) → ((t : Packed) → K t → M t) → ((t : Packed) → M t → K t) → AreExactly K xs → AreExactly M xs
exactly_same K M xs to from x = record { exact = λ t. (λ at. to t ((x.exact t).0 at), λ m. (x.exact t).1 (from t m)); once = x.once }

-- each once
first_apart : (x : Packed) (xs : List Packed) → AllPairs (λ a b. a ≢ b) (x ∷ xs) → All (λ y. x ≢ y) xs
first_apart x xs once = λ k d within. once 0 (suc k) d (omega arith) (omega arith)

rest_once : (x : Packed) (xs : List Packed) → AllPairs (λ a b. a ≢ b) (x ∷ xs) → AllPairs (λ a b. a ≢ b) xs
rest_once x xs once = λ i j d less below. once (suc i) (suc j) d (omega arith) (omega arith)

-- the tables of two kinds that are apart
once_both : (xs ys : List Packed) → AllPairs (λ a b. a ≢ b) xs → AllPairs (λ a b. a ≢ b) ys → ((q : Packed) → Contains xs q → Contains ys q → ⊥) → AllPairs (λ a b. a ≢ b) (xs ++ ys)
once_both [] ys once also apart = also
once_both (x ∷ xs) ys once also apart = AllPairs-cons (λ (a b : Packed). a ≢ b) x (xs ++ ys)
    (all_members (λ y. x ≢ y) (xs ++ ys) (λ y at. elim (Contains-append_cases xs ys y at) [
      | inl left ↦ All-contains (λ z. x ≢ z) xs y (first_apart x xs once) left
      | inr right ↦ λ (e : x ≡ y). apart y (first_member x y xs e) right
    ]))
    (once_both xs ys (rest_once x xs once) also (λ q left right. apart q (later_member x xs q left) right))

pub exactly_both : (K L M : Packed → Type 0) (xs ys : List Packed) → ((t : Packed) → M t ↔ (K t ⊎ L t)) → ((t : Packed) → K t → L t → ⊥) → AreExactly K xs → AreExactly L ys → AreExactly M (xs ++ ys)
exactly_both K L M xs ys both apart x y = record {
  exact = λ t. (
    λ at. (both t).1 (elim (Contains-append_cases xs ys t at) [ inl left ↦ inl ((x.exact t).0 left) | inr right ↦ inr ((y.exact t).0 right) ]),
    λ m. elim ((both t).0 m) [ inl k ↦ Contains-append_left xs ys t ((x.exact t).1 k) | inr l ↦ Contains-append_right xs ys t ((y.exact t).1 l) ],
  );
  once = once_both xs ys x.once y.once (λ t left right. apart t ((x.exact t).0 left) ((y.exact t).0 right));
}

-- of a kind there is one table, or none
pub exactly_one : (K : Packed → Type 0) (t : Packed) → K t → ((q : Packed) → K q → q ≡ t) → AreExactly K (t ∷ [])
exactly_one K t here only = record {
  exact = λ q. (
    λ at. elim (first_or_later t [] q at) [ inl first ↦ subst K first here | inr later ↦ absurd (nothing later) ],
    λ k. first_member t q [] (sym (only q k)),
  );
  once = λ i j d less below. absurd (omega arith);
}
  where
    nothing : {q : Packed} → Contains [] q → ⊥
    nothing (k, below, is) = omega arith

pub exactly_none : (K : Packed → Type 0) → ((q : Packed) → K q → ⊥) → AreExactly K []
exactly_none K none = record {
  exact = λ q. (λ at. absurd (nothing at), λ k. absurd (none q k));
  once = λ i j d less below. absurd (omega arith);
}
  where
    nothing : {q : Packed} → Contains [] q → ⊥
    nothing (k, below, is) = omega arith

earlier_once : (xs ys : List Packed) → AllPairs (λ a b. a ≢ b) (xs ++ ys) → AllPairs (λ a b. a ≢ b) xs
earlier_once [] ys once = λ i j d less below. absurd (omega arith)
earlier_once (x ∷ xs) ys once = AllPairs-cons (λ (a b : Packed). a ≢ b) x xs
    (all_members (λ y. x ≢ y) xs (λ y at. All-contains (λ z. x ≢ z) (xs ++ ys) y (first_apart x (xs ++ ys) once) (Contains-append_left xs ys y at)))
    (earlier_once xs ys (rest_once x (xs ++ ys) once))

apart_from_last : (xs : List Packed) (t q : Packed) → AllPairs (λ a b. a ≢ b) (xs ++ (t ∷ [])) → Contains xs q → q ≢ t
apart_from_last [] t q once (k, below, is) = absurd (omega arith)
apart_from_last (x ∷ xs) t q once at = elim (first_or_later x xs q at) [
  | inl first ↦ subst (λ (y : Packed). y ≢ t) first (All-contains (λ z. x ≢ z) (xs ++ (t ∷ [])) t (first_apart x (xs ++ (t ∷ [])) once) (Contains-append_right xs (t ∷ []) t (first_member t t [] refl)))
  | inr later ↦ apart_from_last xs t q (rest_once x (xs ++ (t ∷ [])) once) later
]

-- the last of the tables of a kind, and the others
pub last_of_kind : (K : Packed → Type 0) (xs : List Packed) (t : Packed) → AreExactly K (xs ++ (t ∷ [])) → K t
last_of_kind K xs t x = (x.exact t).0 (Contains-append_right xs (t ∷ []) t (first_member t t [] refl))

pub without_last : (K : Packed → Type 0) (xs : List Packed) (t : Packed) → AreExactly K (xs ++ (t ∷ [])) → AreExactly (λ q. K q × (q ≢ t)) xs
without_last K xs t x = record {
  exact = λ q. (
    λ at. ((x.exact q).0 (Contains-append_left xs (t ∷ []) q at), apart_from_last xs t q x.once at),
    λ h. elim (Contains-push_cases xs t q ((x.exact q).1 h.0)) [ inl before ↦ before | inr same ↦ absurd (h.1 (sym same)) ],
  );
  once = earlier_once xs (t ∷ []) x.once;
}

-- What a report tells of one record alone, from its own table.
abbrev pub alone : Packed → Claim → List Recorded
alone t c = record { table = t; claim = c } ∷ []

pub marked : (t : Packed) (c : Claim) → mark_in (alone t c) t ≡ Some (mark_of c)
marked t c = ap (option_map mark_of) (claim_here (record { table = t; claim = c }) [] t (same_itself t))

unmarked : (t : Packed) (c : Claim) (q : Packed) → q ≢ t → mark_in (alone t c) q ≡ None
unmarked t c q other = ap (option_map mark_of) (claim_past (record { table = t; claim = c }) [] q (not_same t q (λ (e : t ≡ q). other (sym e))) ∙ claim_none q)

-- no other table is marked, and it as nothing else
pub only_one : (t : Packed) (c : Claim) (q : Packed) (m : Mark) → mark_in (alone t c) q ≡ Some m → (q ≡ t) × (m ≡ mark_of c)
only_one t c q m is = elim (same_table t q) as (λ v. same_table t q ≡ v → (q ≡ t) × (m ≡ mark_of c)) [
  | true ↦ λ same.
      let one : q ≡ t = sym (same_is t q same) in
      let here = marked t c in
      let also = subst (λ (p : Packed). mark_in (alone t c) p ≡ Some m) one is in
      (one, cc)
  | false ↦ λ other.
      let none = ap (option_map mark_of) (claim_past (record { table = t; claim = c }) [] q other ∙ claim_none q) in
      absurd (cc)
] refl

-- it is held from its table
pub held_alone : (t : Packed) (c : Claim) → IsCertified (record { table = t; claim = c }) → HasScore (record { table = t; claim = c }) → IsHeld t (alone t c)
held_alone t c certified scored = record {
  fit = (record { is_open = record { unmarked = ap (option_map mark_of) (claim_none t); place = inl refl }; certified = certified }, tt);
  scored = All-cons HasScore (record { table = t; claim = c }) [] scored (All-nil HasScore);
}

-- open by it are the children of its table, where it halts
pub opened_alone : (t : Packed) (c : Claim) (pair : Option Pair) (found : List Packed) → IsTable t → IsPairOf (ending_by c) t pair → AreOpenedBy t pair found → AreExactly (IsOpen t (mark_in (alone t c))) found
opened_alone t c pair found is_table known opened = exactly_same (λ q. IsSome pair × IsChildTable t q) (IsOpen t (mark_in (alone t c))) found
    (λ q h. record {
      unmarked = unmarked t c q (λ (e : q ≡ t). no_way_up t t is_table Itself (subst (IsChildTable t) e h.1));
      place = let k = halts_by pair known h.0 in inr (t, k.0, marked t c ∙ ap (λ (o : Option Ending). Some (mark_by o)) k.1, h.1);
    })
    (λ q h. elim h.place [
      | inl e ↦ let here = marked t c in let none = subst (λ (p : Packed). mark_in (alone t c) p ≡ None) e h.unmarked in absurd (cc)
      | inr w ↦
          let one = only_one t c w.0 (Halting w.1) w.2 in
          (some_pair pair known (w.1, stopping_verdict (ending_by c) w.1 (sym one.1)), subst (λ (p : Packed). IsChildTable p q) one.0 w.3)
    ])
    opened
  where
    halts_by : (o : Option Pair) → IsPairOf (ending_by c) t o → IsSome o → (k : ℕ) × (ending_by c ≡ Some (Halts k))
    halts_by None h some = absurd (cc)
    halts_by (Some p) h some = let w = pair_halts (ending_by c) t p h in (w.0, w.1)

    some_pair : (o : Option Pair) → IsPairOf (ending_by c) t o → ((k : ℕ) × (ending_by c ≡ Some (Halts k))) → IsSome o
    some_pair None h halts = absurd (no_pair (ending_by c) t halts.0 h halts.1)
    some_pair (Some p) h halts = refl

-- what a table opens that halts on a pair, and one that isn't known to
pub some_opened : (t : Packed) (pair : Option Pair) (p : Pair) (found : List Packed) → pair ≡ Some p → ((q : Packed) → Contains found q ↔ IsChildTable t q) → AllPairs (λ a b. a ≢ b) found → AreOpenedBy t pair found
some_opened t pair p found is members once = record { exact = λ q. (λ at. (some_is pair p is, (members q).0 at), λ h. (members q).1 h.1); once = once }
  where
    some_is : (o : Option Pair) (p : Pair) → o ≡ Some p → IsSome o
    some_is o p is = subst IsSome (sym is) refl

pub none_opened : (t : Packed) (pair : Option Pair) → pair ≡ None → AreOpenedBy t pair []
none_opened t pair none = exactly_none (λ q. IsSome pair × IsChildTable t q) (λ q h. let some = subst IsSome none h.0 in absurd (cc))

pub totals_alone : (t : Packed) (c : Claim) (found : List Packed) → AreExactly (IsOpen t (mark_in (alone t c))) found → AreTotals t (alone t c) (totals_of_one t (shown_by c t) (length found))
totals_alone t (HaltsClaim e) found opened =
    let rs = alone t (HaltsClaim e) in
    let here : HaltsAfter rs e.steps t = marked t (HaltsClaim e) in
    let best = score_at (entry_of t) e.steps in
    let only : (q : Packed) (k : ℕ) → HaltsAfter rs k q → (q ≡ t) × (k ≡ e.steps) = λ q k is. let one = only_one t (HaltsClaim e) q (Halting k) is in (one.0, halting_same k e.steps one.1) in record {
      counted = record {
        nodes = refl;
        open_count = many_of (IsOpen t (mark_in rs)) found opened;
        halting = many_of (IsHalting rs) (t ∷ []) (exactly_one (IsHalting rs) t (e.steps, here) (λ q h. (only q h.0 h.1).0));
        never = none_many (IsNeverHalting rs) (λ q is. let one = only_one t (HaltsClaim e) q NeverHalting is in let other = one.1 in cc);
        holdouts = none_many (IsHoldout rs) (λ q is. let one = only_one t (HaltsClaim e) q Holdout is in let other = one.1 in cc);
        best = ((t, here), λ q k is. let same = (only q k is).1 in omega (arith, same));
        ones = ((t, (e.steps, here, refl)), λ q s h. let same = ones_same q s h in omega (arith, same));
      };
      are_champions = exactly_one (IsChampion rs (Some e.steps)) t here (λ q is. (only q e.steps is).0);
      are_ones_champions = exactly_one (IsOnesChampion rs (Some best)) t (e.steps, here, refl) (λ q h. (only q h.0 h.1).0);
      are_holdouts = exactly_none (IsHoldout rs) (λ q is. let one = only_one t (HaltsClaim e) q Holdout is in let other = one.1 in cc);
    }
  where
    halting_same : (k j : ℕ) → Halting k ≡ Halting j → k ≡ j
    halting_same k j same = cc

    ones_same : (q : Packed) (s : ℕ) → HasOnes (alone t (HaltsClaim e)) s q → s ≡ score_at (entry_of t) e.steps
    ones_same q s h =
        let one = only_one t (HaltsClaim e) q (Halting h.0) h.1 in
        let steps = halting_same h.0 e.steps one.1 in
        h.2 ∙ (ap (λ (p : Packed). score_at (entry_of p) h.0) one.0 ∙ ap (score_at (entry_of t)) steps)
totals_alone t (NeverClaim r) found opened =
    let rs = alone t (NeverClaim r) in
    let here : IsNeverHalting rs t = marked t (NeverClaim r) in
    let none : (q : Packed) (k : ℕ) → HaltsAfter rs k q → ⊥ = λ q k is. let one = only_one t (NeverClaim r) q (Halting k) is in let other = one.1 in cc in record {
      counted = record {
        nodes = refl;
        open_count = many_of (IsOpen t (mark_in rs)) found opened;
        halting = none_many (IsHalting rs) (λ q h. none q h.0 h.1);
        never = many_of (IsNeverHalting rs) (t ∷ []) (exactly_one (IsNeverHalting rs) t here (λ q is. (only_one t (NeverClaim r) q NeverHalting is).0));
        holdouts = none_many (IsHoldout rs) (λ q is. let one = only_one t (NeverClaim r) q Holdout is in let other = one.1 in cc);
        best = λ q k is. none q k is;
        ones = λ q s h. none q h.0 h.1;
      };
      are_champions = exactly_none (IsChampion rs None) (λ q h. h);
      are_ones_champions = exactly_none (IsOnesChampion rs None) (λ q h. h);
      are_holdouts = exactly_none (IsHoldout rs) (λ q is. let one = only_one t (NeverClaim r) q Holdout is in let other = one.1 in cc);
    }
totals_alone t NoClaim found opened =
    let rs = alone t NoClaim in
    let here : IsHoldout rs t = marked t NoClaim in
    let none : (q : Packed) (k : ℕ) → HaltsAfter rs k q → ⊥ = λ q k is. let one = only_one t NoClaim q (Halting k) is in let other = one.1 in cc in
    let held_out = exactly_one (IsHoldout rs) t here (λ q is. (only_one t NoClaim q Holdout is).0) in record {
      counted = record {
        nodes = refl;
        open_count = many_of (IsOpen t (mark_in rs)) found opened;
        halting = none_many (IsHalting rs) (λ q h. none q h.0 h.1);
        never = none_many (IsNeverHalting rs) (λ q is. let one = only_one t NoClaim q NeverHalting is in let other = one.1 in cc);
        holdouts = many_of (IsHoldout rs) (t ∷ []) held_out;
        best = λ q k is. none q k is;
        ones = λ q s h. none q h.0 h.1;
      };
      are_champions = exactly_none (IsChampion rs None) (λ q h. h);
      are_ones_champions = exactly_none (IsOnesChampion rs None) (λ q h. h);
      are_holdouts = held_out;
    }
