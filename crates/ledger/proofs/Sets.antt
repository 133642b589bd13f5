-- Which tables maps of tables have, and that their order is that of texts.
use Rattle.std.proofs.Common.{◌≡◌, ◌≢◌, ℕ, true, false, cond, refl, sym, ◌∙◌, ap, subst, ◌⊎◌, inl, inr, ◌↔◌, List, [], ◌∷◌, zero, suc, arith, Some, None, Option, unwrap_or, nat_eq, not, length, ◌+◌, if◌then◌else◌, ◌-◌, ◌<◌, get_or}
use Rattle.std.specs.List.{Contains, AllPairs}
use Rattle.std.specs.Ordering.{nat_cmp, ordering_then, is_eq, match_ordering, is_lt, ordering_reverse}
use Rattle.std.specs.declared.cmp.Ordering.{Ordering}
use Rattle.std.specs.declared.cmp.Ordering.TheVariants.{Less, Equal, Greater}
use Rattle.std.specs.Cmp.Lexicographic.{slice_cmp, nat_list_cmp_total}
use Rattle.std.specs.Cmp.{IsTotalOrder, nat_cmp_total, tied_itself, then_total, on_total}
use Rattle.std.proofs.lemmas.Map.Views.{btree_map_contains_key_iff}
use Rattle.std.proofs.lemmas.Bool.Decides.{Decides-eqb}
use Rattle.std.specs.BTreeMap.{BTreeMap, get, keys, ContainsKey, is_at, insert_entry}
use Rattle.std.specs.Map.{lookup}
use Rattle.std.specs.Option.{is_some}
use Rattle.std.proofs.lemmas.Map.Lookups.{exact_bytes, exact_unsigned}
use Rattle.std.specs.List.Sorted.{IsPermutation, IsSorted, IsStrictlySortedBy}
use Rattle.std.specs.Bool.{Decides}
use Rattle.std.proofs.lemmas.List.Elements.{All-contains_itself}
use Rattle.std.proofs.lemmas.List.Sorted.{Contains-permutation, IsPermutation-sym}
use Rattle.std.proofs.lemmas.Map.Keys.{IsDistinct-IsPermutation, Less-from_sorted}
use Rattle.std.proofs.lemmas.Map.Made.{AllPairs-from_IsDistinct, IsDistinct-from_AllPairs}
use Rattle.cert.specs.Terms.{Recorded}
use Rattle.ledger.specs.Records.{claim_in, same_table}
use Rattle.machine_text.specs.Terms.{Packed, table_cmp, IsTable, text_of}
use Rattle.ledger.specs.inside.Counting.{others, HasUnrecorded}
use Rattle.machine_text.proofs.Order.{order_of_texts}
use Rattle.ledger.specs.Tally.{AreInTextOrder, AreAll}
use Rattle.ledger.proofs.Claims.{same_is, same_at, same_flips}

-- Maps of tables: which tables they have.

-- the order of tables tells them apart
then_equal : (a b : Ordering) → ordering_then a b ≡ Equal → (a ≡ Equal) × (b ≡ Equal)
then_equal Equal b e = (refl, e)
then_equal Less b e = cc
then_equal Greater b e = cc

pub exact_tables : (a b : Packed) → table_cmp a b ≡ Equal → a ≡ b
exact_tables a b e =
    let both = then_equal (slice_cmp nat_cmp a.codes b.codes) (nat_cmp a.states b.states) e in
    let codes : a.codes ≡ b.codes = exact_bytes a.codes b.codes both.0 in
    let states : a.states ≡ b.states = exact_unsigned a.states b.states both.1 in
    ap (λ (c : List ℕ). record { codes = c; states = a.states }) codes ∙ ap (λ (n : ℕ). record { codes = b.codes; states = n }) states

tied_table : (a : Packed) → table_cmp a a ≡ Equal
tied_table a = rw (tied_itself nat_list_cmp_total a.codes, tied_itself nat_cmp_total a.states)

equal_only : (o : Ordering) → is_at (λ (u : Packed). o) (record { codes = []; states = 0 }) ≡ true → o ≡ Equal
equal_only Equal e = refl
equal_only Less e = cc
equal_only Greater e = cc

pub at_is : (t q : Packed) → is_at (table_cmp t) q ≡ true → t ≡ q
at_is t q e = exact_tables t q (equal_only (table_cmp t q) e)

pub at_itself : (t : Packed) → is_at (table_cmp t) t ≡ true
at_itself t = rw tied_table

-- a map changed at one table
pub removed : (old new : BTreeMap Packed ℕ) (t q : Packed) → get table_cmp new q ≡ cond (is_at (table_cmp t) q) None (get table_cmp old q)
    → ContainsKey table_cmp new q ↔ (ContainsKey table_cmp old q × (q ≢ t))
removed old new t q is =
    elim (is_at (table_cmp t) q) as (λ v. is_at (table_cmp t) q ≡ v → get table_cmp new q ≡ cond v None (get table_cmp old q) → ContainsKey table_cmp new q ↔ (ContainsKey table_cmp old q × (q ≢ t))) [
      | true ↦ λ here gone. (λ there. let none = ap is_some gone in absurd (cc), λ h. absurd (h.1 (sym (at_is t q here))))
      | false ↦ λ other same. (λ there. (sym (ap is_some same) ∙ there, λ (e : q ≡ t). let itself = subst (λ (p : Packed). is_at (table_cmp t) p ≡ true) (sym e) (at_itself t) in absurd (cc)), λ h. ap is_some same ∙ h.0)
    ] refl is

pub inserted : (old new : List (Packed × ℕ)) (t q : Packed) (value : ℕ) → lookup (is_at (table_cmp q)) new ≡ cond (is_at (table_cmp t) q) (Some value) (lookup (is_at (table_cmp q)) old)
    → (is_some (lookup (is_at (table_cmp q)) new) ≡ true) ↔ ((is_some (lookup (is_at (table_cmp q)) old) ≡ true) ⊎ (q ≡ t))
inserted old new t q value is =
    let has = λ (es : List (Packed × ℕ)). is_some (lookup (is_at (table_cmp q)) es) ≡ true in
    elim (is_at (table_cmp t) q) as (λ v. is_at (table_cmp t) q ≡ v → lookup (is_at (table_cmp q)) new ≡ cond v (Some value) (lookup (is_at (table_cmp q)) old) → has new ↔ (has old ⊎ (q ≡ t))) [
      | true ↦ λ here there. (λ h. inr (sym (at_is t q here)), λ h. ap is_some there)
      | false ↦ λ other same. (λ there. inl (sym (ap is_some same) ∙ there), λ h. elim h [ inl there ↦ ap is_some same ∙ there | inr e ↦ let itself = subst (λ (p : Packed). is_at (table_cmp t) p ≡ true) (sym e) (at_itself t) in absurd (cc) ])
    ] refl is

-- the members of a list with one more at its front
first_or_later : (x : Packed) (xs : List Packed) (q : Packed) → Contains (x ∷ xs) q → (x ≡ q) ⊎ Contains xs q
first_or_later x xs q (zero, below, is) = inl is
first_or_later x xs q (suc k, below, is) = inr (k, omega arith, is)

later_member : (x : Packed) (xs : List Packed) (q : Packed) → Contains xs q → Contains (x ∷ xs) q
later_member x xs q (k, below, is) = (suc k, omega arith, is)

first_member : (x : Packed) (xs : List Packed) → Contains (x ∷ xs) x
first_member x xs = (0, omega arith, refl)

alone : (x q : Packed) → Contains (x ∷ []) q → x ≡ q
alone x q (zero, below, is) = is
alone x q (suc k, below, is) = absurd (omega arith)

-- a child that has no record, alone and among others
alone_is : {rs : List Recorded} {parent x q : Packed} → HasUnrecorded (x ∷ []) rs parent q → q ≡ x
alone_is {rs} {parent} {x} {q} h = sym (alone x q h.listed)

pub unrecorded_alone : (rs : List Recorded) (parent x : Packed) → (claim_in rs x ≡ None) × (x ≢ parent) → HasUnrecorded (x ∷ []) rs parent x
unrecorded_alone rs parent x h = record { listed = first_member x []; unrecorded = h.0; other = h.1 }

-- a child brought into a set, or not
pub brought : (rs : List Recorded) (parent x q : Packed) (A B : Type 0) → (claim_in rs x ≡ None) × (x ≢ parent) → B ↔ (A ⊎ (q ≡ x))
    → B ↔ (A ⊎ HasUnrecorded (x ∷ []) rs parent q)
brought rs parent x q A B fresh added = (
  λ h. elim (added.0 h) [ inl there ↦ inl there | inr same ↦ inr (subst (HasUnrecorded (x ∷ []) rs parent) (sym same) (unrecorded_alone rs parent x fresh)) ],
  λ h. elim h [ inl there ↦ added.1 (inl there) | inr u ↦ added.1 (inr (alone_is u)) ],
)

-- what one child brings and what the others do is what all of them bring
pub brings : (rs : List Recorded) (parent x q : Packed) (all rest : List Packed) (A B R : Type 0) → all ≡ x ∷ rest
    → (A ⊎ HasUnrecorded all rs parent q) ↔ R → B ↔ (A ⊎ HasUnrecorded (x ∷ []) rs parent q)
    → (B ⊎ HasUnrecorded rest rs parent q) ↔ R
brings rs parent x q all rest A B R list before one =
    let more : (h : HasUnrecorded rest rs parent q) → HasUnrecorded all rs parent q = λ h.
    record { listed = subst (λ (l : List Packed). Contains l q) (sym list) (later_member x rest q h.listed); unrecorded = h.unrecorded; other = h.other } in
    let first : (h : HasUnrecorded (x ∷ []) rs parent q) → HasUnrecorded all rs parent q = λ h.
    record { listed = subst (λ (l : List Packed). Contains l q) (sym list) (subst (Contains (x ∷ rest)) (sym (alone_is h)) (first_member x rest)); unrecorded = h.unrecorded; other = h.other } in (
      λ h. elim h [ inl b ↦ elim (one.0 b) [ inl a ↦ before.0 (inl a) | inr u ↦ before.0 (inr (first u)) ] | inr u ↦ before.0 (inr (more u)) ],
      λ r. elim (before.1 r) [
        | inl a ↦ inl (one.1 (inl a))
        | inr u ↦ elim (first_or_later x rest q (subst (λ (l : List Packed). Contains l q) list u.listed)) [
          | inl same ↦ inl (one.1 (inr (record { listed = subst (Contains (x ∷ [])) same (first_member x []); unrecorded = u.unrecorded; other = u.other })))
          | inr later ↦ inr (record { listed = later; unrecorded = u.unrecorded; other = u.other })
        ]
      ],
    )

pub nobody : {q : Packed} → Contains [] q → ⊥
nobody (k, below, is) = omega arith

-- the map of one table
pub only_one : (tables : BTreeMap Packed ℕ) (t : Packed) (place : ℕ) → tables.entries ≡ (t, place) ∷ [] → (q : Packed) → ContainsKey table_cmp tables q ↔ (q ≡ t)
only_one tables t place is q = subst (λ (es : List (Packed × ℕ)). (is_some (lookup (is_at (table_cmp q)) es) ≡ true) ↔ (q ≡ t)) (sym is)
    (elim (is_at (table_cmp q) t) as (λ v. is_at (table_cmp q) t ≡ v → (is_some (cond v (Some place) None) ≡ true) ↔ (q ≡ t)) [
      | true ↦ λ here. (λ h. at_is q t here, λ e. refl)
      | false ↦ λ other. (λ h. absurd (cc), λ (e : q ≡ t). let itself = subst (λ (p : Packed). is_at (table_cmp q) p ≡ true) e (at_itself q) in absurd (cc))
    ] refl)

-- the order of tables is total, so a set has exactly the tables that it lists
pub tables_total : IsTotalOrder table_cmp
tables_total = then_total (on_total (λ (p : Packed). p.codes) nat_list_cmp_total) (on_total (λ (p : Packed). p.states) nat_cmp_total)

pub listed_in_map : (tables : BTreeMap Packed ℕ) (t : Packed) → ContainsKey table_cmp tables t ↔ Contains (keys tables) t
listed_in_map tables t = btree_map_contains_key_iff tables_total exact_tables tables t

-- a table put at a place among those of other places
own_place : (place : ℕ) → not (nat_eq place place) ≡ false
own_place place = rw (Decides-eqb place place).1 refl

others_by : (place : ℕ) (e : Packed × ℕ) (es : List (Packed × ℕ)) (t : Packed) (o : Ordering)
    → (lookup (is_at (table_cmp t)) es ≡ None → others place (insert_entry table_cmp es t place) ≡ others place es)
    → cond (is_eq o) (Some e.1) (lookup (is_at (table_cmp t)) es) ≡ None
    → others place (match_ordering o ((t, place) ∷ (e ∷ es)) ((e.0, place) ∷ es) (e ∷ insert_entry table_cmp es t place)) ≡ others place (e ∷ es)
others_by place e es t Less later none = rw (own_place place) refl
others_by place e es t Equal later none = absurd (cc)
others_by place e es t Greater later none =
    elim (nat_eq e.1 place) as (λ v. nat_eq e.1 place ≡ v → cond (not v) (e ∷ others place (insert_entry table_cmp es t place)) (others place (insert_entry table_cmp es t place)) ≡ cond (not v) (e ∷ others place es) (others place es)) [
      | true ↦ λ same. later none
      | false ↦ λ other. ap (λ (l : List (Packed × ℕ)). e ∷ l) (later none)
    ] refl

pub others_inserted : (place : ℕ) (es : List (Packed × ℕ)) (t : Packed) → lookup (is_at (table_cmp t)) es ≡ None → others place (insert_entry table_cmp es t place) ≡ others place es
others_inserted place [] t none = rw (own_place place) refl
others_inserted place (e ∷ es) t none = others_by place e es t (table_cmp t e.0) (others_inserted place es t) none

-- a table that has a value in a map, put there again with that value, changes nothing
kept_by : (t : Packed) (v : ℕ) (e : Packed × ℕ) (es : List (Packed × ℕ)) (o : Ordering)
    → (lookup (is_at (table_cmp t)) es ≡ Some v → length (insert_entry table_cmp es t v) ≡ length es → insert_entry table_cmp es t v ≡ es)
    → cond (is_eq o) (Some e.1) (lookup (is_at (table_cmp t)) es) ≡ Some v
    → length (match_ordering o ((t, v) ∷ (e ∷ es)) ((e.0, v) ∷ es) (e ∷ insert_entry table_cmp es t v)) ≡ suc (length es)
    → match_ordering o ((t, v) ∷ (e ∷ es)) ((e.0, v) ∷ es) (e ∷ insert_entry table_cmp es t v) ≡ e ∷ es
kept_by t v e es Less later found as_long = absurd (omega arith)
kept_by t v e es Equal later found as_long = let same : v ≡ e.1 = cc found in ap (λ (n : ℕ). (e.0, n) ∷ es) same
kept_by t v e es Greater later found as_long = ap (λ (l : List (Packed × ℕ)). e ∷ l) (later found (omega arith))

pub kept : (t : Packed) (v : ℕ) (es : List (Packed × ℕ)) → lookup (is_at (table_cmp t)) es ≡ Some v
    → length (insert_entry table_cmp es t v) ≡ length es → insert_entry table_cmp es t v ≡ es
kept t v [] found as_long = absurd (cc)
kept t v (e ∷ es) found as_long = kept_by t v e es (table_cmp t e.0) (kept t v es) found as_long

-- a table's value, or the place where it has none, put into a map
pub entries_entered : (place : ℕ) (es new : List (Packed × ℕ)) (t : Packed) (value : Option ℕ) → value ≡ lookup (is_at (table_cmp t)) es
    → new ≡ insert_entry table_cmp es t (unwrap_or value place) → length new ≡ length es + (if is_some value then 0 else 1)
    → (new ≡ es) ⊎ (new ≡ insert_entry table_cmp es t place)
entries_entered place es new t None is put long = inr put
entries_entered place es new t (Some v) is put long = inl (put ∙ kept t v es (sym is) (ap length (sym put) ∙ long ∙ omega arith))

pub others_entered : (place : ℕ) (es new : List (Packed × ℕ)) (t : Packed) (value : Option ℕ) → value ≡ lookup (is_at (table_cmp t)) es
    → new ≡ insert_entry table_cmp es t (unwrap_or value place) → length new ≡ length es + (if is_some value then 0 else 1)
    → others place new ≡ others place es
others_entered place es new t None is put long = ap (others place) put ∙ others_inserted place es t (sym is)
others_entered place es new t (Some v) is put long = ap (others place) (put ∙ kept t v es (sym is) (ap length (sym put) ∙ long ∙ omega arith))

-- The order of tables is that of their texts.

-- where each table comes before the later ones, its text does
pub in_text_order : (tables : List Packed) → ((t : Packed) → Contains tables t → IsTable t) → AllPairs (λ (a b : Packed). table_cmp a b ≡ Less) tables → AreInTextOrder tables
in_text_order tables are_tables rising = λ i j d less below.
    let a = get_or tables i d in
    let b = get_or tables j d in
    sym (order_of_texts a b (are_tables a (All-contains_itself tables i d (omega arith))) (are_tables b (All-contains_itself tables j d below))) ∙ rising i j d less below

pub keys_rising : (tables : List Packed) → IsStrictlySortedBy table_cmp tables → AllPairs (λ (a b : Packed). table_cmp a b ≡ Less) tables
keys_rising tables sorted = λ i j d less below. Less-from_sorted table_cmp tables i j d sorted less below

less_apart : (a b : Packed) → table_cmp a b ≡ Less → a ≢ b
less_apart a b less = λ (e : a ≡ b). let itself : table_cmp a a ≡ Less = subst (λ (p : Packed). table_cmp a p ≡ Less) (sym e) less in let back = tables_total.antisymm a a in absurd (cc)

-- tables that rise differ
pub rising_once : (tables : List Packed) → AllPairs (λ (a b : Packed). table_cmp a b ≡ Less) tables → AllPairs (λ (a b : Packed). a ≢ b) tables
rising_once tables rising = λ i j d less below. less_apart (get_or tables i d) (get_or tables j d) (rising i j d less below)

-- no text comes before itself, so texts that rise are of different tables
pub never_before_itself : (a : Packed) → slice_cmp nat_cmp (text_of a) (text_of a) ≡ Less → ⊥
never_before_itself a less = let back = nat_list_cmp_total.antisymm (text_of a) (text_of a) in cc

pub rising_apart : (tables : List Packed) → AllPairs (λ (a b : Packed). slice_cmp nat_cmp (text_of a) (text_of b) ≡ Less) tables → AllPairs (λ (a b : Packed). a ≢ b) tables
rising_apart tables rising = λ i j d less below. apart_texts (get_or tables i d) (get_or tables j d) (rising i j d less below)
  where
    apart_texts : (a b : Packed) → slice_cmp nat_cmp (text_of a) (text_of b) ≡ Less → a ≢ b
    apart_texts a b less = λ (e : a ≡ b). never_before_itself a (subst (λ (p : Packed). slice_cmp nat_cmp (text_of a) (text_of p) ≡ Less) (sym e) less)

-- different tables that are sorted rise
greater_back : (r : Ordering) → ordering_reverse r ≡ Greater → is_lt r ≡ false → ⊥
greater_back Less e low = cc
greater_back Equal e low = cc
greater_back Greater e low = cc

not_below : (a b : Packed) (o r : Ordering) → table_cmp a b ≡ o → table_cmp b a ≡ r → is_lt r ≡ false → a ≢ b → o ≡ Less
not_below a b Less r ab ba low apart = refl
not_below a b Equal r ab ba low apart = absurd (apart (exact_tables a b ab))
not_below a b Greater r ab ba low apart = let back = tables_total.antisymm a b in absurd (greater_back r (ap ordering_reverse (sym ba) ∙ (sym back ∙ ab)) low)

next_less : (tables : List Packed) → IsSorted table_cmp tables → AllPairs (λ (a b : Packed). a ≢ b) tables → (k : ℕ) (d : Packed) → k + 1 < length tables → table_cmp (get_or tables k d) (get_or tables (k + 1) d) ≡ Less
next_less tables sorted apart k d below =
    let a = get_or tables k d in
    let b = get_or tables (k + 1) d in
    not_below a b (table_cmp a b) (table_cmp b a) refl refl (sorted k d (omega arith) below) (apart k (k + 1) d (omega arith) below)

beyond : (tables : List Packed) → IsSorted table_cmp tables → AllPairs (λ (a b : Packed). a ≢ b) tables → (i n j : ℕ) (d : Packed) → j ≡ i + n + 1 → j < length tables → table_cmp (get_or tables i d) (get_or tables j d) ≡ Less
beyond tables sorted apart i zero j d is below =
    subst (λ (k : ℕ). table_cmp (get_or tables i d) (get_or tables k d) ≡ Less) (omega (arith, is)) (next_less tables sorted apart i d (omega (arith, is)))
beyond tables sorted apart i (suc n) j d is below =
    let last = subst (λ (k : ℕ). table_cmp (get_or tables (j - 1) d) (get_or tables k d) ≡ Less) (omega (arith, is)) (next_less tables sorted apart (j - 1) d (omega (arith, is))) in
    tables_total.trans (get_or tables i d) (get_or tables (j - 1) d) (get_or tables j d) (beyond tables sorted apart i n (j - 1) d (omega (arith, is)) (omega (arith, is))) last

pub sorted_rising : (tables : List Packed) → IsSorted table_cmp tables → AllPairs (λ (a b : Packed). a ≢ b) tables → AllPairs (λ (a b : Packed). table_cmp a b ≡ Less) tables
sorted_rising tables sorted apart = λ i j d less below. beyond tables sorted apart i (j - (i + 1)) j d (omega arith) below

-- exchanges keep tables apart
same_decides : (a b : Packed) → Decides (same_table a b) (a ≡ b)
same_decides a b = (λ same. same_is a b same, λ e. same_at a b e)

pub permuted_once : (xs ys : List Packed) → IsPermutation xs ys → AllPairs (λ (a b : Packed). a ≢ b) xs → AllPairs (λ (a b : Packed). a ≢ b) ys
permuted_once xs ys same once =
    AllPairs-from_IsDistinct same_decides ys (IsDistinct-IsPermutation same_table same_flips xs ys same (IsDistinct-from_AllPairs same_decides xs once))

-- so a list of different tables of a kind, sorted, is that of all of them in the order of their texts
pub all_sorted : (IsOfKind : Packed → Type 0) (xs ys : List Packed) → ((t : Packed) → Contains xs t → IsOfKind t) → ((t : Packed) → IsOfKind t → Contains xs t) → ((t : Packed) → IsOfKind t → IsTable t)
    → AllPairs (λ (a b : Packed). a ≢ b) xs → IsPermutation xs ys → IsSorted table_cmp ys → AreAll IsOfKind ys
all_sorted IsOfKind xs ys from to are_tables once same sorted = record {
  exact = λ t. (λ at. from t (Contains-permutation ys xs t (IsPermutation-sym xs ys same) at), λ kind. Contains-permutation xs ys t same (to t kind));
  rising = in_text_order ys (λ t at. are_tables t (from t (Contains-permutation ys xs t (IsPermutation-sym xs ys same) at))) (sorted_rising ys sorted (permuted_once xs ys same once));
}

-- tables in the order of their texts differ
texts_apart : (a b : Packed) → slice_cmp nat_cmp (text_of a) (text_of b) ≡ Less → a ≢ b
texts_apart a b less = λ (e : a ≡ b).
    let itself : slice_cmp nat_cmp (text_of a) (text_of a) ≡ Less = subst (λ (p : Packed). slice_cmp nat_cmp (text_of a) (text_of p) ≡ Less) (sym e) less in
    let tied : slice_cmp nat_cmp (text_of a) (text_of a) ≡ Equal = tied_itself nat_list_cmp_total (text_of a) in
    absurd (cc)

pub all_apart : (IsOfKind : Packed → Type 0) (tables : List Packed) → AreAll IsOfKind tables → AllPairs (λ (a b : Packed). a ≢ b) tables
all_apart IsOfKind tables all = λ i j d less below. texts_apart (get_or tables i d) (get_or tables j d) (all.rising i j d less below)
