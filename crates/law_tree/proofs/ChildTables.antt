-- A table's children stand in their list each once and in text order, and their number is known.
use Rattle.std.proofs.Common.{◌≡◌, ℕ, ◌<◌, ◌≤◌, List, [], ◌∷◌, length, get_or, map, Some, sym, ◌∙◌, ap, subst, inl, inr, arith, zero, suc, set, ◌+◌, ◌*◌, ◌++◌}
use Rattle.std.specs.List.{Contains, AllPairs}
use Rattle.std.proofs.lemmas.Bool.{cases_lt, le-leb, lt-leb, lt-ltb, cases_eq}
use Rattle.std.proofs.lemmas.Option.{same_Some}
use Rattle.std.proofs.lemmas.List.{get_or-map, length-map, length-append}
use Rattle.std.proofs.lemmas.List.Elements.{Contains-get_or}
use Rattle.std.specs.Ordering.{nat_cmp, ordering_then}
use Rattle.std.specs.declared.cmp.Ordering.TheVariants.{Less}
use Rattle.std.specs.Cmp.Lexicographic.{slice_cmp}
use Rattle.std.proofs.lemmas.Cmp.{nat_cmp_total, tied_itself}
use Prim.Native.Nat.{min}
use Rattle.machine_text.specs.declared.table.Sym.{Sym}
use Rattle.machine_text.specs.declared.table.Sym.TheVariants.{Zero, One}
use Rattle.machine_text.specs.declared.table.Dir.TheVariants.{L, R}
use Rattle.machine_text.specs.declared.table.Entry.{Entry}
use Rattle.machine_text.specs.Terms.{Packed, IsTable, entry_of, with_entry, holes, code_of, pair_place, text_of}
use Rattle.law_turing.specs.Terms.{Machine}
use Rattle.law_tree.specs.Tree.{InOrder, used_count, HaltsOn, IsChildEntry, child_entries, IsChildTable, children_at, Precedes, entries_to}
use Rattle.law_tree.proofs.Filling.{filled_at}
use Rattle.law_tree.proofs.Used.{used_number}
use Rattle.law_tree.proofs.Extensions.{pair_within}
use Rattle.law_tree.proofs.TreeLaws.{same_state, same_read}
use Rattle.law_tree.proofs.ChildEntries.{listed_is_entry, entry_is_listed, entries_differ, entries_rise, list_empty, list_filled, length_to}
use Rattle.law_turing.proofs.RunLaws.{table_machine}
use Rattle.law_tree.proofs.TableLaws.{with_entry_fills}
use Rattle.machine_text.proofs.Order.{order_of_texts}
use Rattle.machine_text.proofs.Tables.{place_in, IsTable-with_entry, with_entry-stored}

-- The list of a table's children: its members are exactly the children, each once.

-- members of a mapped list
contains_map : {X Y : Type 0} (f : X → Y) (xs : List X) (y : Y) → Contains (map f xs) y → (x : X) × Contains xs x × (f x ≡ y)
contains_map f [] y c = absurd (omega (arith, c.1))
contains_map f (x ∷ xs) y c =
    let lt : c.0 < length (x ∷ xs) = omega (arith, c.1, length-map (x ∷ xs) f) in
    (get_or (x ∷ xs) c.0 x, Contains-get_or (x ∷ xs) c.0 x lt, sym (get_or-map f (x ∷ xs) c.0 x y lt) ∙ c.2)

map_contains : {X Y : Type 0} (f : X → Y) (xs : List X) (x : X) → Contains xs x → Contains (map f xs) (f x)
map_contains f xs x c = (c.0, omega (arith, c.1, length-map xs f), get_or-map f xs c.0 x (f x) c.1 ∙ ap f c.2)

-- the list by whether at least two pairs are undefined
abbrev pub entries_of : Packed → List Entry
entries_of p = child_entries p.states (used_count p.states (entry_of p)) (entry_of p)

pub some_children : (p : Packed) (q : ℕ) (s : Sym) → 2 ≤ holes p.states (entry_of p) → children_at p q s ≡ map (with_entry p q s) (entries_of p)
unfolding children_at
some_children p q s two = rw (le-leb 2 (holes p.states (entry_of p)) two)

pub no_children : (p : Packed) (q : ℕ) (s : Sym) → holes p.states (entry_of p) < 2 → children_at p q s ≡ []
unfolding children_at
no_children p q s few = rw (lt-leb 2 (holes p.states (entry_of p)) few)

-- p halts on the pair, in order
module _ (p : Packed) (u k q : ℕ) (s : Sym) (i : IsTable p) (o : InOrder u (entry_of p)) (h : HaltsOn (entry_of p) k q s) where
  pub entry_from : (e : Entry) → Contains (entries_of p) e → IsChildEntry p.states u (entry_of p) e
  entry_from e c =
      let m = table_machine p i in
      subst (λ v. IsChildEntry p.states v (entry_of p) e) (used_number p.states u (entry_of p) m o) (listed_is_entry p.states (used_count p.states (entry_of p)) (entry_of p) e m c)

  -- what is listed is a child
  pub listed_is_child : (t : Packed) → Contains (children_at p q s) t → IsChildTable p t
  listed_is_child t c = elim (cases_lt (holes p.states (entry_of p)) 2) [
    | inl few ↦ (
        let none : Contains [] t = subst (λ (ts : List Packed). Contains ts t) (no_children p q s few) c in
        absurd (omega (arith, none.1)))
    | inr two ↦ (
        let (e, there, is) = contains_map (with_entry p q s) (entries_of p) t (subst (λ (ts : List Packed). Contains ts t) (some_children p q s two) c) in
        record { used = u; in_order = o; count = k; state = q; symbol = s; halts = h; undefined = two; entry = e; is_entry = entry_from e there; is = sym is })
  ]

  -- each child is listed
  pub child_is_listed : (t : Packed) → IsChildTable p t → Contains (children_at p q s) t
  child_is_listed t x =
      let m = table_machine p i in
      let used : x.used ≡ used_count p.states (entry_of p) = sym (used_number p.states x.used (entry_of p) m x.in_order) in
      let entry = subst (λ v. IsChildEntry p.states v (entry_of p) x.entry) used x.is_entry in
      let listed = map_contains (with_entry p q s) (entries_of p) x.entry (entry_is_listed p.states (used_count p.states (entry_of p)) (entry_of p) x.entry m entry) in
      let state = same_state (entry_of p) x.count k x.state q x.symbol s x.halts h in
      let symbol = same_read (entry_of p) x.count k x.state q x.symbol s x.halts h in
      let same : t ≡ with_entry p q s x.entry = x.is ∙ ap (λ y. with_entry p y x.symbol x.entry) state ∙ ap (λ r. with_entry p q r x.entry) symbol in
      subst (λ (ts : List Packed). Contains ts t) (sym (some_children p q s x.undefined)) (subst (Contains (map (with_entry p q s) (entries_of p))) (sym same) listed)

  -- tables with different entries at the pair differ
  same_entries : (a b : Entry) → a.next.0 < p.states → b.next.0 < p.states → with_entry p q s a ≡ with_entry p q s b → a ≡ b
  same_entries a b la lb same =
      let within = pair_within p.states (entry_of p) k q s (table_machine p i) h in
      let at : (e : Entry) → e.next.0 < p.states → entry_of (with_entry p q s e) q s ≡ Some e = λ e lt. ap (λ (m : Machine). m q s) (with_entry_fills p q s e i within lt) ∙ filled_at (entry_of p) q s e in
      same_Some a b (sym (at a la) ∙ ap (λ t. entry_of t q s) same ∙ at b lb)

  -- so each child stands in the list once
  pub children_differ : AllPairs (λ a b. a ≡ b → ⊥) (children_at p q s)
  children_differ = elim (cases_lt (holes p.states (entry_of p)) 2) [
    | inl few ↦ subst (λ (ts : List Packed). AllPairs (λ a b. a ≡ b → ⊥) ts) (sym (no_children p q s few)) (λ x y d less within same. omega arith)
    | inr two ↦ subst (λ (ts : List Packed). AllPairs (λ a b. a ≡ b → ⊥) ts) (sym (some_children p q s two)) differ
  ]
    where
      none : Entry
      none = record { write = Zero; dir = L; next = record { 0 = 0 } }

      es : List Entry
      es = entries_of p

      small : (x : ℕ) → x < length es → (get_or es x none).next.0 < p.states
      small x lt = (entry_from (get_or es x none) (Contains-get_or es x none lt)).within

      differ : AllPairs (λ a b. a ≡ b → ⊥) (map (with_entry p q s) es)
      differ x y d less within same =
          let last : y < length es = omega (arith, length-map es (with_entry p q s)) in
          let first : x < length es = omega arith in
          let tables : with_entry p q s (get_or es x none) ≡ with_entry p q s (get_or es y none) = sym (get_or-map (with_entry p q s) es x none d first) ∙ same ∙ get_or-map (with_entry p q s) es y none d last in
          entries_differ p.states (used_count p.states (entry_of p)) (entry_of p) x y none less last (same_entries (get_or es x none) (get_or es y none) (small x first) (small y last) tables)

-- The children of a table at a pair come in the order of their texts.

-- a lower number written at one place of a list makes a lower list
lower_set : (xs : List ℕ) (i a b : ℕ) → i < length xs → a < b → slice_cmp nat_cmp (set xs i a) (set xs i b) ≡ Less
lower_set [] i a b lt less = absurd (omega arith)
lower_set (x ∷ xs) zero a b lt less =
    let lower : nat_cmp a b ≡ Less = rw (lt-ltb a b less) in
    ap (λ o. ordering_then o (slice_cmp nat_cmp xs xs)) lower
lower_set (x ∷ xs) (suc i) a b lt less =
    ap (λ o. ordering_then o (slice_cmp nat_cmp (set xs i a) (set xs i b))) (tied_itself nat_cmp_total x) ∙ lower_set xs i a b (omega arith) less

-- the codes of entries rise as their texts do
codes_rise : (a b : Entry) → a.next.0 < 8 → b.next.0 < 8 → Precedes a b → code_of (Some a) < code_of (Some b)
codes_rise a b low high p = elim p [
  | inl less ↦ omega arith
  | inr later ↦ omega arith
]

module _ (p : Packed) (q : ℕ) (s : Sym) (i : IsTable p) (at : q < p.states) where
  lower_codes : (a b : Entry) → a.next.0 < p.states → b.next.0 < p.states → code_of (Some a) < code_of (Some b) → slice_cmp nat_cmp (with_entry p q s a).codes (with_entry p q s b).codes ≡ Less
  lower_codes a b la lb less =
      rw (with_entry-stored p q s a i at la, with_entry-stored p q s b i at lb) (lower_set p.codes (pair_place q s) (code_of (Some a)) (code_of (Some b)) (place_in p q s i at) less)

  -- tables that differ in one entry are in the order of its texts
  tables_rise : (a b : Entry) → a.next.0 < p.states → b.next.0 < p.states → Precedes a b → slice_cmp nat_cmp (text_of (with_entry p q s a)) (text_of (with_entry p q s b)) ≡ Less
  tables_rise a b la lb order =
      let x = with_entry p q s a in
      let y = with_entry p q s b in
      sym (order_of_texts x y (IsTable-with_entry p q s a i at la) (IsTable-with_entry p q s b i at lb))
      ∙ ap (λ o. ordering_then o (nat_cmp x.states y.states)) (lower_codes a b la lb (codes_rise a b (omega (arith, i.limit)) (omega (arith, i.limit)) order))

  pub children_rise : AllPairs (λ a b. slice_cmp nat_cmp (text_of a) (text_of b) ≡ Less) (children_at p q s)
  children_rise = elim (cases_lt (holes p.states (entry_of p)) 2) [
    | inl few ↦ subst (λ (ts : List Packed). AllPairs (λ a b. slice_cmp nat_cmp (text_of a) (text_of b) ≡ Less) ts) (sym (no_children p q s few)) (λ x y d less within. absurd (omega arith))
    | inr two ↦ subst (λ (ts : List Packed). AllPairs (λ a b. slice_cmp nat_cmp (text_of a) (text_of b) ≡ Less) ts) (sym (some_children p q s two)) rising
  ]
    where
      none : Entry
      none = record { write = Zero; dir = L; next = record { 0 = 0 } }

      es : List Entry
      es = entries_of p

      small : (x : ℕ) → x < length es → (get_or es x none).next.0 < p.states
      small x lt = (listed_is_entry p.states (used_count p.states (entry_of p)) (entry_of p) (get_or es x none) (table_machine p i) (Contains-get_or es x none lt)).within

      rising : AllPairs (λ a b. slice_cmp nat_cmp (text_of a) (text_of b) ≡ Less) (map (with_entry p q s) es)
      rising x y d less within =
          let last : y < length es = omega (arith, length-map es (with_entry p q s)) in
          let first : x < length es = omega arith in
          let rise = tables_rise (get_or es x none) (get_or es y none) (small x first) (small y last) (entries_rise p.states (used_count p.states (entry_of p)) (entry_of p) x y none less last) in
          let left : get_or (map (with_entry p q s) es) x d ≡ with_entry p q s (get_or es x none) = get_or-map (with_entry p q s) es x none d first in
          let right : get_or (map (with_entry p q s) es) y d ≡ with_entry p q s (get_or es y none) = get_or-map (with_entry p q s) es y none d last in
          ap (λ (a : Packed). slice_cmp nat_cmp (text_of a) (text_of (get_or (map (with_entry p q s) es) y d))) left
          ∙ ap (λ (b : Packed). slice_cmp nat_cmp (text_of (with_entry p q s (get_or es x none))) (text_of b)) right ∙ rise

-- How many children a table has.

-- there are at most four for each state
length_entries : (n u : ℕ) (m : Machine) → length (child_entries n u m) ≤ 4 * n
length_entries n u m = elim (cases_eq (holes n m) (2 * n)) [
  | inl all ↦ omega (arith, ap length (list_empty n u m all), length-append (entries_to t Zero R) (entries_to t One R), length_to t Zero R, length_to t One R)
  | inr some ↦ omega (
    arith,
    ap length (list_filled n u m some),
    length-append zeros ones,
    length-append (entries_to t Zero L) (entries_to t Zero R),
    length-append (entries_to t One L) (entries_to t One R),
    length_to t Zero L,
    length_to t Zero R,
    length_to t One L,
    length_to t One R,
  )
]
  where
    t : ℕ
    t = min n (u + 1)

    zeros : List Entry
    zeros = entries_to t Zero L ++ entries_to t Zero R

    ones : List Entry
    ones = entries_to t One L ++ entries_to t One R

pub children_bound : (p : Packed) (q : ℕ) (s : Sym) → length (children_at p q s) ≤ 4 * p.states
children_bound p q s = elim (cases_lt (holes p.states (entry_of p)) 2) [
  | inl few ↦ omega (arith, ap length (no_children p q s few))
  | inr two ↦ omega (arith, ap length (some_children p q s two), length-map (entries_of p) (with_entry p q s), length_entries p.states (used_count p.states (entry_of p)) (entry_of p))
]
