-- What is claimed of a table by the place of its record, and the code's map of records.
use Rattle.std.proofs.Common.{◌≡◌, ℕ, Bool, true, false, ◌&&◌, refl, ◌∙◌, ap, subst, nat_eq, not, ◌≢◌, sym, List, [], ◌∷◌, ◌++◌, Some, None, Ok, IsSome, inl, inr, option_map, suc, ◌<◌, ◌^◌, cond, length, drop, min, Option, arith}
use Rattle.std.specs.Cmp.Lexicographic.{pointwise, pointwise_decides}
use Rattle.std.proofs.lemmas.Bool.Decides.{Decides-eqb}
use Rattle.std.specs.Prelude.{slice_get}
use Rattle.std.specs.List.{All}
use Rattle.std.specs.Map.{lookup, lookup_key}
use Rattle.std.proofs.Math.ListN.{drop_of_length-le}
use Rattle.std.proofs.lemmas.Bool.{cases_lt}
use Rattle.std.proofs.lemmas.List.{drop-map, length-map}
use Rattle.std.proofs.lemmas.List.Elements.{All-cons, All-nil}
use Rattle.std.proofs.lemmas.Option.{same_Some, slice_get-map}
use Rattle.machine_text.specs.Terms.{Packed}
use Rattle.ledger.specs.Records.{same_table, claim_in, resolved, mark_in, mark_of, mark_by, HasScore, IsHoldout}
use Rattle.cert.specs.Terms.{Claim, Recorded, ending_by, with_score, owned_claim}
use Rattle.law_tree.specs.Terms.{Mark, Holdout, IsVerdict}
use Rattle.ledger.specs.Offers.{OfferGives, IsKnown}
use Rattle.ledger.specs.declared.faults.Taken.{Taken}
use Rattle.ledger.specs.declared.faults.Taken.TheVariants.{New, Known, Settled}
use Rattle.indexmap.specs.IndexMap.{insert_entry}
use Rattle.kind_evidence.specs.declared.verdicts.Ending.{Ending}
use Rattle.kind_evidence.specs.declared.verdicts.Ending.TheVariants.{Halts, Never}
use Rattle.ledger.specs.inside.Stored.{entry_recorded, records_of, KnowsPair}
use Rattle.ledger.specs.inside.Counting.{is_halting}
use Rattle.ledger.specs.declared.stored_record.StoredRecord.{StoredRecord}

-- The test of equal tables tells them apart.
both_true : (a b : Bool) → (a && b) ≡ true → (a ≡ true) × (b ≡ true)
both_true true true h = (refl, refl)
both_true true false h = (refl, h)
both_true false b h = cc

-- it passes at a table and itself, and at no two tables
pub same_is : (a b : Packed) → same_table a b ≡ true → a ≡ b
unfolding same_table
same_is a b h =
    let both = both_true (pointwise nat_eq a.codes b.codes) (nat_eq a.states b.states) h in
    let codes : a.codes ≡ b.codes = (pointwise_decides Decides-eqb a.codes b.codes).0 both.0 in
    let states : a.states ≡ b.states = (Decides-eqb a.states b.states).0 both.1 in
    ap (λ (c : _). record { codes = c; states = a.states }) codes ∙ ap (λ (n : ℕ). record { codes = b.codes; states = n }) states

pub same_itself : (a : Packed) → same_table a a ≡ true
unfolding same_table
same_itself a =
    let codes : pointwise nat_eq a.codes a.codes ≡ true = (pointwise_decides Decides-eqb a.codes a.codes).1 refl in
    let states : nat_eq a.states a.states ≡ true = (Decides-eqb a.states a.states).1 refl in
    rw (codes, states)

pub same_at : (a b : Packed) → a ≡ b → same_table a b ≡ true
same_at a b e = subst (λ (p : Packed). same_table a p ≡ true) e (same_itself a)

pub not_same : (a b : Packed) → (a ≡ b → ⊥) → same_table a b ≡ false
not_same a b apart = elim (same_table a b) as (λ v. same_table a b ≡ v → v ≡ false) [ true ↦ λ h. absurd (apart (same_is a b h)) | false ↦ λ h. refl ] refl

pub apart : (a b : Packed) → same_table a b ≡ false → a ≡ b → ⊥
apart a b other e = let yes = same_at a b e in cc

-- what the code's `!=` of two tables says
pub differ : (a b : Packed) (r : Bool) → r ≡ not (same_table a b) → (r ≡ true → a ≢ b) × (a ≢ b → r ≡ true)
differ a b r is =
    elim (same_table a b) as (λ v. same_table a b ≡ v → r ≡ not v → (r ≡ true → a ≢ b) × (a ≢ b → r ≡ true)) [
      | true ↦ λ same no. (λ so. absurd (cc), λ other. absurd (other (same_is a b same)))
      | false ↦ λ other so. (λ h. apart a b other, λ h. so)
    ] refl is

-- it is the same both ways
pub same_flips : (a b : Packed) → same_table a b ≡ same_table b a
same_flips a b =
    elim (same_table b a) as (λ v. same_table b a ≡ v → same_table a b ≡ v) [
      | true ↦ λ same. same_at a b (sym (same_is b a same))
      | false ↦ λ other. elim (same_table a b) as (λ w. same_table a b ≡ w → w ≡ false) [
        | true ↦ λ same. let back = same_at b a (sym (same_is a b same)) in absurd (cc)
        | false ↦ λ e. refl
      ] refl
    ] refl

-- The test of two roots.

-- the test of the root
pub is_other_root : (found root : Packed) (r : Bool) → r ≡ not (same_table found root) → r ≡ true → found ≡ root → ⊥
is_other_root found root r is holds = (differ found root r is).0 holds

pub is_the_root : (found root : Packed) (r : Bool) → r ≡ not (same_table found root) → r ≡ false → found ≡ root
is_the_root found root r is fails = elim (same_table found root) as (λ v. same_table found root ≡ v → r ≡ not v → found ≡ root) [
  | true ↦ λ same is. same_is found root same
  | false ↦ λ other is. absurd (cc)
] refl is

-- What is claimed of a table, by the place of its record.

-- a record of a table at the front, and one of another table
pub claim_here : (r : Recorded) (rs : List Recorded) (t : Packed) → same_table r.table t ≡ true → claim_in (r ∷ rs) t ≡ Some r.claim
unfolding claim_in
claim_here r rs t same = rw same

pub claim_past : (r : Recorded) (rs : List Recorded) (t : Packed) → same_table r.table t ≡ false → claim_in (r ∷ rs) t ≡ claim_in rs t
unfolding claim_in
claim_past r rs t other = rw other

pub claim_none : (t : Packed) → claim_in [] t ≡ None
unfolding claim_in
claim_none t = refl

-- what more records say: nothing else where there was a record, and what they claim where there was none
pub claim_kept : (rs ys : List Recorded) (t : Packed) (c : Claim) → claim_in rs t ≡ Some c → claim_in (rs ++ ys) t ≡ Some c
claim_kept [] ys t c is = let none = claim_none t in cc
claim_kept (r ∷ rs) ys t c is =
    elim (same_table r.table t) as (λ v. same_table r.table t ≡ v → claim_in (r ∷ (rs ++ ys)) t ≡ Some c) [
      | true ↦ λ same. claim_here r (rs ++ ys) t same ∙ sym (claim_here r rs t same) ∙ is
      | false ↦ λ other. claim_past r (rs ++ ys) t other ∙ claim_kept rs ys t c (sym (claim_past r rs t other) ∙ is)
    ] refl

pub claim_more : (rs ys : List Recorded) (t : Packed) → claim_in rs t ≡ None → claim_in (rs ++ ys) t ≡ claim_in ys t
claim_more [] ys t none = refl
claim_more (r ∷ rs) ys t none =
    elim (same_table r.table t) as (λ v. same_table r.table t ≡ v → claim_in (r ∷ (rs ++ ys)) t ≡ claim_in ys t) [
      | true ↦ λ same. let here = claim_here r rs t same in cc
      | false ↦ λ other. claim_past r (rs ++ ys) t other ∙ claim_more rs ys t (sym (claim_past r rs t other) ∙ none)
    ] refl

-- a resolving record takes the place of the first for its table: it claims there what is claimed of that table,
-- and nothing else changes
pub settled_here : (x : Recorded) (xs : List Recorded) (r : Recorded) → same_table x.table r.table ≡ true → resolved (x ∷ xs) r ≡ r ∷ xs
unfolding resolved
settled_here x xs r same = rw same

pub settled_past : (x : Recorded) (xs : List Recorded) (r : Recorded) → same_table x.table r.table ≡ false → resolved (x ∷ xs) r ≡ x ∷ resolved xs r
unfolding resolved
settled_past x xs r other = rw other

pub settled_claim : (rs : List Recorded) (r : Recorded) (c : Claim) → claim_in rs r.table ≡ Some c → claim_in (resolved rs r) r.table ≡ Some r.claim
settled_claim [] r c is = let none = claim_none r.table in cc
settled_claim (x ∷ xs) r c is =
    elim (same_table x.table r.table) as (λ v. same_table x.table r.table ≡ v → claim_in (resolved (x ∷ xs) r) r.table ≡ Some r.claim) [
      | true ↦ λ same. ap (λ (l : List Recorded). claim_in l r.table) (settled_here x xs r same) ∙ claim_here r xs r.table (same_itself r.table)
      | false ↦ λ other.
          ap (λ (l : List Recorded). claim_in l r.table) (settled_past x xs r other) ∙ claim_past x (resolved xs r) r.table other
          ∙ settled_claim xs r c (sym (claim_past x xs r.table other) ∙ is)
    ] refl

-- A record that is answered is of a table that has a record.
abbrev IsIn : List Recorded → Packed → Type 0
IsIn rs t = IsSome (claim_in rs t)

claimed : (rs : List Recorded) (t : Packed) (c : Claim) → claim_in rs t ≡ Some c → IsIn rs t
claimed rs t c is = subst IsSome (sym is) refl

marked : (rs : List Recorded) (t : Packed) (m : Mark) → mark_in rs t ≡ Some m → IsIn rs t
marked rs t m is = elim (claim_in rs t) as (λ o. option_map mark_of o ≡ Some m → IsSome o) [
  | Some c ↦ λ is. refl
  | None ↦ λ is. cc
] is

decided : (rs : List Recorded) (t : Packed) → IsVerdict (mark_in rs t) → IsIn rs t
decided rs t is = elim (claim_in rs t) as (λ o. IsVerdict (option_map mark_of o) → IsSome o) [
  | Some c ↦ λ is. refl
  | None ↦ λ is. absurd is
] is

last : (rs : List Recorded) (r : Recorded) → IsIn (rs ++ (r ∷ [])) r.table
last rs r = elim (claim_in rs r.table) as (λ o. claim_in rs r.table ≡ o → IsIn (rs ++ (r ∷ [])) r.table) [
  | Some c ↦ λ is. claimed (rs ++ (r ∷ [])) r.table c (claim_kept rs (r ∷ []) r.table c is)
  | None ↦ λ is. claimed (rs ++ (r ∷ [])) r.table r.claim (claim_more rs (r ∷ []) r.table is ∙ claim_here r [] r.table (same_itself r.table))
] refl

put : (rs : List Recorded) (r : Recorded) → IsIn rs r.table → IsIn (resolved rs r) r.table
put rs r there = elim (claim_in rs r.table) as (λ o. claim_in rs r.table ≡ o → IsSome o → IsIn (resolved rs r) r.table) [
  | Some c ↦ λ is there. claimed (resolved rs r) r.table r.claim (settled_claim rs r c is)
  | None ↦ λ is there. absurd (cc)
] refl there

pub answered : (root : Packed) (old new : List Recorded) (r : Recorded) (taken : Taken) → OfferGives root old r (Ok taken) new → IsSome (claim_in new r.table)
answered root old new r New gives = subst (λ (rs : List Recorded). IsIn rs r.table) (sym gives.1) (last old (with_score r))
answered root old new r Known gives = subst (λ (rs : List Recorded). IsIn rs r.table) (sym gives.1) (known gives.0)
  where
    known : IsKnown old r → IsIn old r.table
    known k = elim k.is [
      | inl verdict ↦ decided old r.table verdict
      | inr holdout ↦ marked old r.table Holdout holdout.0
    ]
answered root old new r Settled gives =
    subst (λ (rs : List Recorded). IsIn rs r.table) (sym gives.1) (put old (with_score r) (marked old r.table Holdout gives.0.is_holdout))

-- The code's map of records, and the records that it holds.
abbrev pub stored_claim : StoredRecord → Claim
stored_claim k = owned_claim k.certificate

-- what the map has at a table is what the records claim of it
pub claim_lookup : (es : List (Packed × StoredRecord)) (t : Packed) → option_map stored_claim (lookup (same_table t) es) ≡ claim_in (records_of es) t
claim_lookup [] t = sym (claim_none t)
claim_lookup (e ∷ es) t =
    elim (same_table t e.0) as (λ v. same_table t e.0 ≡ v → option_map stored_claim (cond v (Some e.1) (lookup (same_table t) es)) ≡ claim_in (entry_recorded e ∷ records_of es) t) [
      | true ↦ λ same. sym (claim_here (entry_recorded e) (records_of es) t (same_flips e.0 t ∙ same))
      | false ↦ λ other. claim_lookup es t ∙ sym (claim_past (entry_recorded e) (records_of es) t (same_flips e.0 t ∙ other))
    ] refl

pub found_claim : (es : List (Packed × StoredRecord)) (t : Packed) (k : StoredRecord) → lookup (same_table t) es ≡ Some k → claim_in (records_of es) t ≡ Some (owned_claim k.certificate)
found_claim es t k is = sym (claim_lookup es t) ∙ ap (option_map stored_claim) is

pub no_claim : (es : List (Packed × StoredRecord)) (t : Packed) → lookup (same_table t) es ≡ None → claim_in (records_of es) t ≡ None
no_claim es t is = sym (claim_lookup es t) ∙ ap (option_map stored_claim) is

none_back : (o : Option StoredRecord) → option_map stored_claim o ≡ None → o ≡ None
none_back None e = refl
none_back (Some k) e = cc

pub no_entry : (es : List (Packed × StoredRecord)) (t : Packed) → claim_in (records_of es) t ≡ None → lookup (same_table t) es ≡ None
no_entry es t none = none_back (lookup (same_table t) es) (claim_lookup es t ∙ none)

some_back : (o : Option StoredRecord) (c : Claim) → option_map stored_claim o ≡ Some c → (k : StoredRecord) × (o ≡ Some k)
some_back None c e = cc
some_back (Some k) c e = (k, refl)

pub an_entry : (es : List (Packed × StoredRecord)) (t : Packed) (c : Claim) → claim_in (records_of es) t ≡ Some c → (k : StoredRecord) × (lookup (same_table t) es ≡ Some k)
an_entry es t c is = some_back (lookup (same_table t) es) c (claim_lookup es t ∙ is)

-- a new table goes last
pub entry_last : (es : List (Packed × StoredRecord)) (t : Packed) (k : StoredRecord) → lookup (same_table t) es ≡ None → insert_entry same_table es t k ≡ es ++ ((t, k) ∷ [])
entry_last [] t k none = refl
entry_last (e ∷ es) t k none =
    elim (same_table t e.0) as (λ v. same_table t e.0 ≡ v → cond v (Some e.1) (lookup (same_table t) es) ≡ None → cond v ((e.0, k) ∷ es) (e ∷ insert_entry same_table es t k) ≡ e ∷ (es ++ ((t, k) ∷ []))) [
      | true ↦ λ same some. absurd (cc)
      | false ↦ λ other rest. ap (λ (l : List (Packed × StoredRecord)). e ∷ l) (entry_last es t k rest)
    ] refl none

-- and a table that is there keeps its place
pub entry_settled : (es : List (Packed × StoredRecord)) (t : Packed) (k old : StoredRecord) → lookup (same_table t) es ≡ Some old
    → records_of (insert_entry same_table es t k) ≡ resolved (records_of es) (entry_recorded (t, k))
entry_settled [] t k old is = absurd (cc)
entry_settled (e ∷ es) t k old is =
    elim (same_table t e.0) as (λ v. same_table t e.0 ≡ v → cond v (Some e.1) (lookup (same_table t) es) ≡ Some old
    → records_of (cond v ((e.0, k) ∷ es) (e ∷ insert_entry same_table es t k)) ≡ resolved (entry_recorded e ∷ records_of es) (entry_recorded (t, k))) [
      | true ↦ λ same found.
          ap (λ (p : Packed). entry_recorded (p, k) ∷ records_of es) (sym (same_is t e.0 same)) ∙ sym (settled_here (entry_recorded e) (records_of es) (entry_recorded (t, k)) (same_flips e.0 t ∙ same))
      | false ↦ λ other rest.
          ap (λ (l : List Recorded). entry_recorded e ∷ l) (entry_settled es t k old rest) ∙ sym (settled_past (entry_recorded e) (records_of es) (entry_recorded (t, k)) (same_flips e.0 t ∙ other))
    ] refl is

-- what is known of each entry
pub all_first : {X : Type 0} (P : X → Type 0) (x : X) (xs : List X) → All P (x ∷ xs) → P x
all_first P x xs all = all 0 x (omega arith)

pub all_rest : {X : Type 0} (P : X → Type 0) (x : X) (xs : List X) → All P (x ∷ xs) → All P xs
all_rest P x xs all = λ k d below. all (suc k) d (omega arith)

pub found_pair : (es : List (Packed × StoredRecord)) (t : Packed) (k : StoredRecord) → All KnowsPair es → lookup (same_table t) es ≡ Some k → KnowsPair (t, k)
found_pair [] t k all is = absurd (cc)
found_pair (e ∷ es) t k all is =
    elim (same_table t e.0) as (λ v. same_table t e.0 ≡ v → cond v (Some e.1) (lookup (same_table t) es) ≡ Some k → KnowsPair (t, k)) [
      | true ↦ λ same found.
          let here : e.1 ≡ k = cc in
          subst (λ (x : StoredRecord). KnowsPair (t, x)) here (subst (λ (p : Packed). KnowsPair (p, e.1)) (sym (same_is t e.0 same)) (all_first KnowsPair e es all))
      | false ↦ λ other rest. found_pair es t k (all_rest KnowsPair e es all) rest
    ] refl is

pub found_score : (es : List (Packed × StoredRecord)) (t : Packed) (k : StoredRecord) → All HasScore (records_of es) → lookup (same_table t) es ≡ Some k → HasScore (entry_recorded (t, k))
found_score [] t k all is = absurd (cc)
found_score (e ∷ es) t k all is =
    elim (same_table t e.0) as (λ v. same_table t e.0 ≡ v → cond v (Some e.1) (lookup (same_table t) es) ≡ Some k → HasScore (entry_recorded (t, k))) [
      | true ↦ λ same found.
          let here : HasScore (entry_recorded e) = all_first HasScore (entry_recorded e) (records_of es) all in
          let value : e.1 ≡ k = same_Some e.1 k found in
          subst (λ (p : Packed). HasScore (entry_recorded (p, k))) (sym (same_is t e.0 same)) (subst (λ (v : StoredRecord). HasScore (entry_recorded (e.0, v))) value here)
      | false ↦ λ other rest. found_score es t k (all_rest HasScore (entry_recorded e) (records_of es) all) rest
    ] refl is

pub inserted_pairs : (es : List (Packed × StoredRecord)) (t : Packed) (k : StoredRecord) → All KnowsPair es → KnowsPair (t, k) → All KnowsPair (insert_entry same_table es t k)
inserted_pairs [] t k all pair = All-cons KnowsPair (t, k) [] pair (All-nil KnowsPair)
inserted_pairs (e ∷ es) t k all pair =
    elim (same_table t e.0) as (λ v. same_table t e.0 ≡ v → All KnowsPair (cond v ((e.0, k) ∷ es) (e ∷ insert_entry same_table es t k))) [
      | true ↦ λ same. All-cons KnowsPair (e.0, k) es (subst (λ (p : Packed). KnowsPair (p, k)) (same_is t e.0 same) pair) (all_rest KnowsPair e es all)
      | false ↦ λ other. All-cons KnowsPair e (insert_entry same_table es t k) (all_first KnowsPair e es all) (inserted_pairs es t k (all_rest KnowsPair e es all) pair)
    ] refl

-- the place of a holdout
key_is : (es : List (Packed × StoredRecord)) (t k : Packed) → lookup_key (same_table t) es ≡ Some k → t ≡ k
key_is [] t k is = absurd (cc)
key_is (e ∷ es) t k is =
    elim (same_table t e.0) as (λ v. same_table t e.0 ≡ v → cond v (Some e.0) (lookup_key (same_table t) es) ≡ Some k → t ≡ k) [
      | true ↦ λ same found. let here : e.0 ≡ k = cc in same_is t e.0 same ∙ here
      | false ↦ λ other rest. key_is es t k rest
    ] refl is

not_halting : (o : Option Ending) → mark_by o ≡ Holdout → o ≡ None
not_halting None e = refl
not_halting (Some (Halts k)) e = cc
not_halting (Some Never) e = cc

pub holdout_shows : (rs : List Recorded) (t : Packed) (c : Claim) → IsHoldout rs t → claim_in rs t ≡ Some c → ending_by c ≡ None
holdout_shows rs t c holdout is = let marked = ap (option_map mark_of) (sym is) ∙ holdout in not_halting (ending_by c) cc

silent : (r : Recorded) → ending_by r.claim ≡ None → is_halting r ≡ false
silent r none = rw none

pub holdout_place : (es : List (Packed × StoredRecord)) (t k : Packed) (v : StoredRecord) (place : ℕ) → IsHoldout (records_of es) t → slice_get es place ≡ Some (k, v)
    → Some k ≡ lookup_key (same_table t) es → Some v ≡ lookup (same_table t) es
    → (r : Recorded) × (slice_get (records_of es) place ≡ Some r) × (r.table ≡ t) × (is_halting r ≡ false)
holdout_place es t k v place holdout at key value =
    let claimed = found_claim es t v (sym value) in
    (entry_recorded (k, v), slice_get-map entry_recorded es place ∙ ap (option_map entry_recorded) at, sym (key_is es t k (sym key)), silent (entry_recorded (k, v)) (holdout_shows (records_of es) t (owned_claim v.certificate) holdout claimed))

pub holdout_there : (es : List (Packed × StoredRecord)) (t : Packed) → IsHoldout (records_of es) t → lookup (same_table t) es ≡ None → ⊥
holdout_there es t holdout none = let gone = ap (option_map mark_of) (no_claim es t none) in absurd (cc)

-- from a place on, but no farther than to the end, is from the place on
pub recorded_from : (es : List (Packed × StoredRecord)) (place n : ℕ) → n ≡ min place (length es) → records_of (drop n es) ≡ drop place (records_of es)
recorded_from es place n is = elim (cases_lt place (length es)) [
  | inl small ↦ let here : n ≡ place = omega (arith, is, small) in ap (λ (k : ℕ). records_of (drop k es)) here ∙ sym (drop-map entry_recorded place es)
  | inr large ↦
      let size = length-map es entry_recorded in
      let none : drop n es ≡ [] = drop_of_length-le es (omega (arith, is, large)) in
      ap records_of none ∙ sym (drop_of_length-le (records_of es) (omega (arith, large, size)))
]
