-- Codes of a table give its entries back, as one is filled, and its undefined pairs are counted.
use Rattle.std.proofs.Common.{◌≡◌, ℕ, zero, suc, ◌+◌, ◌-◌, ◌*◌, ◌/◌, ◌%◌, ◌<◌, ◌≤◌, false, eqb, get_or, map, Option, Some, None, IfSome, refl, sym, ap, ◌∙◌, inl, inr, arith, ◌≢◌, true, length, set, ◌⊎◌, subst, get_or-set_same, get_or-set_other, cond, take}
use Rattle.std.specs.List.{range_with_len, count_by}
use Rattle.std.proofs.lemmas.Bool.{cases_lt, cases_eq, eq-eqb, ne_eqb}
use Rattle.std.proofs.lemmas.Bool.Decides.{nat_tests}
use Rattle.std.proofs.lemmas.List.{ext_get_or, get_or_past, length-set}
use Rattle.std.proofs.lemmas.List.FromFn.{get_or-map-range_with_len, length-map-range_with_len}
use Rattle.std.proofs.lemmas.List.Sums.{sum_by_more}
use Rattle.machine_text.specs.Limits.{state_limit}
use Rattle.machine_text.specs.declared.table.Sym.{Sym}
use Rattle.machine_text.specs.declared.table.Sym.TheVariants.{Zero, One}
use Rattle.machine_text.specs.declared.table.Dir.{Dir}
use Rattle.machine_text.specs.declared.table.Dir.TheVariants.{L, R}
use Rattle.machine_text.specs.declared.table.Entry.{Entry}
use Rattle.machine_text.specs.Packed.{Packed, IsTable, symbol_number, symbol_of, direction_number, direction_of, code_of, coded_entry, pair_place, entry_of, tabulated, IsMapOf, same_symbol, filled, with_entry, hole, holes}

-- Codes give their entries back, and a map gives a table that has its entries.
pub symbol_number-le : (s : Sym) → symbol_number s ≤ 1
symbol_number-le Zero = omega arith
symbol_number-le One = omega arith

pub direction_number-le : (d : Dir) → direction_number d ≤ 1
direction_number-le L = omega arith
direction_number-le R = omega arith

pub symbol_of-symbol_number : (s : Sym) → symbol_of (symbol_number s) ≡ s
symbol_of-symbol_number Zero = refl
symbol_of-symbol_number One = refl

pub direction_of-direction_number : (d : Dir) → direction_of (direction_number d) ≡ d
direction_of-direction_number L = refl
direction_of-direction_number R = refl

pub symbol_number-symbol_of : (k : ℕ) → k ≤ 1 → symbol_number (symbol_of k) ≡ k
symbol_number-symbol_of zero below = refl
symbol_number-symbol_of (suc zero) below = refl
symbol_number-symbol_of (suc (suc k)) below = absurd (omega arith)

pub direction_number-direction_of : (k : ℕ) → k ≤ 1 → direction_number (direction_of k) ≡ k
direction_number-direction_of zero below = refl
direction_number-direction_of (suc zero) below = refl
direction_number-direction_of (suc (suc k)) below = absurd (omega arith)

-- an entry is its parts put together
abbrev pub entry_with : Sym → Dir → ℕ → Entry
entry_with w d x = record { write = w; dir = d; next = record { 0 = x } }

pub same_entry : (w v : Sym) (d c : Dir) (x y : ℕ) → w ≡ v → d ≡ c → x ≡ y → entry_with w d x ≡ entry_with v c y
same_entry w v d c x y same_write same_dir same_next =
    ap (λ s. entry_with s d x) same_write ∙ ap (λ t. entry_with v t x) same_dir ∙ ap (λ z. entry_with v c z) same_next

-- the code of an entry whose next state fits gives the entry back
pub coded_entry-code_of : (o : Option Entry) → IfSome o (λ e. e.next.0 < 8) → coded_entry (code_of o) ≡ o
coded_entry-code_of None fits = refl
coded_entry-code_of (Some e) fits =
    let w = symbol_number e.write in
    let d = direction_number e.dir in
    let w_le : w ≤ 1 = symbol_number-le e.write in
    let d_le : d ≤ 1 = direction_number-le e.dir in
    let code = 16 * w + 8 * d + e.next.0 + 1 in
    let not_none : eqb code 0 ≡ false = grind (arith, nat_tests) in
    let write : (code - 1) / 16 ≡ w = omega arith in
    let dir : (code - 1) / 8 % 2 ≡ d = omega arith in
    let next : (code - 1) % 8 ≡ e.next.0 = omega arith in
    rw not_none (ap Some (same_entry _ _ _ _ _ _ (ap symbol_of write ∙ symbol_of-symbol_number e.write) (ap direction_of dir ∙ direction_of-direction_number e.dir) next))

-- an entry's code is that of the entry for which it stands
pub code_of-coded_entry : (k : ℕ) → k ≤ 32 → code_of (coded_entry k) ≡ k
code_of-coded_entry zero below = refl
code_of-coded_entry (suc k) below =
    let w : symbol_number (symbol_of ((suc k - 1) / 16)) ≡ (suc k - 1) / 16 = symbol_number-symbol_of _ (omega arith) in
    let d : direction_number (direction_of ((suc k - 1) / 8 % 2)) ≡ (suc k - 1) / 8 % 2 = direction_number-direction_of _ (omega arith) in
    let not_none : eqb (suc k) 0 ≡ false = grind (arith, nat_tests) in
    rw not_none (rw (w, d) (omega arith))

pub code_of-le : (o : Option Entry) → IfSome o (λ e. e.next.0 < 8) → code_of o ≤ 32
code_of-le None fits = omega arith
code_of-le (Some e) fits = omega (arith, symbol_number-le e.write, direction_number-le e.dir)

-- the next state stands in the lowest bits of a code
pub next_in_code : (o : Option Entry) (n : ℕ) → n ≤ 8 → IfSome o (λ e. e.next.0 < n) → 0 < code_of o → (code_of o - 1) % 8 < n
next_in_code None n limit fits some = absurd (omega arith)
next_in_code (Some e) n limit fits some =
    let w_le = symbol_number-le e.write in
    let d_le = direction_number-le e.dir in
    omega (arith, symbol_number-le e.write, direction_number-le e.dir)

weaker : (o : Option Entry) (n : ℕ) → n ≤ 8 → IfSome o (λ e. e.next.0 < n) → IfSome o (λ e. e.next.0 < 8)
weaker None n limit fits = tt
weaker (Some e) n limit fits = omega arith

module _ (n : ℕ) (m : ℕ → Sym → Option Entry) (map_of : IsMapOf n m) where
  -- each code of the table made of a map
  pub codes-tabulated : (k : ℕ) → get_or (tabulated n m).codes k 0 ≡ code_of (m (k / 2) (symbol_of (k % 2)))
  unfolding tabulated
  codes-tabulated k = elim (cases_lt k (2 * state_limit)) [
    | inl within ↦ get_or-map-range_with_len (λ k. code_of (m (k / 2) (symbol_of (k % 2)))) 0 (2 * state_limit) k k 0 within (omega arith)
    | inr past ↦
        let no_state : m (k / 2) (symbol_of (k % 2)) ≡ None = map_of.beyond (k / 2) _ (omega (arith, map_of.limit)) in
        let codes = map (λ k. code_of (m (k / 2) (symbol_of (k % 2)))) (range_with_len 0 (2 * state_limit)) in
        get_or_past codes k 0 (omega (arith, length-map-range_with_len (λ k. code_of (m (k / 2) (symbol_of (k % 2)))) 0 (2 * state_limit)))
        ∙ sym (ap code_of no_state)
  ]

  -- it has the map's entries
  pub entry_of-tabulated : (q : ℕ) (s : Sym) → entry_of (tabulated n m) q s ≡ m q s
  unfolding entry_of
  entry_of-tabulated q s =
      let s_le = symbol_number-le s in
      let state : pair_place q s / 2 ≡ q = omega arith in
      let symbol : symbol_of (pair_place q s % 2) ≡ s = ap symbol_of (let e : pair_place q s % 2 ≡ symbol_number s = omega arith in e) ∙ symbol_of-symbol_number s in
      ap coded_entry (codes-tabulated (pair_place q s) ∙ ap code_of (ap (λ p. m p (symbol_of (pair_place q s % 2))) state ∙ ap (m q) symbol))
      ∙ coded_entry-code_of (m q s) (weaker (m q s) n (omega (arith, map_of.limit)) (map_of.inside q s))

  -- and is a table
  pub IsTable-tabulated : IsTable (tabulated n m)
  unfolding tabulated
  IsTable-tabulated =
      let small : n ≤ 8 = omega (arith, map_of.limit) in
      record {
        some = map_of.some;
        limit = map_of.limit;
        size = length-map-range_with_len (λ k. code_of (m (k / 2) (symbol_of (k % 2)))) 0 (2 * state_limit);
        codes = λ k. rw (codes-tabulated k) (code_of-le _ (weaker _ n small (map_of.inside _ _)));
        nexts = λ k. rw (codes-tabulated k) (next_in_code _ n small (map_of.inside _ _));
        beyond = λ k past. codes-tabulated k ∙ ap code_of (map_of.beyond (k / 2) _ (omega arith));
      }

-- tables with the same entries and as many states are one
pub same_table : (p q : Packed) → IsTable p → IsTable q → p.states ≡ q.states → ((i : ℕ) (s : Sym) → entry_of p i s ≡ entry_of q i s) → p ≡ q
unfolding entry_of
same_table p q table_p table_q states entries =
    let same_code : (k : ℕ) → get_or p.codes k 0 ≡ get_or q.codes k 0 = λ k.
    let k_le : k % 2 ≤ 1 = omega arith in
    let place : pair_place (k / 2) (symbol_of (k % 2)) ≡ k = rw (symbol_number-symbol_of (k % 2) k_le) (omega arith) in
    sym (code_of-coded_entry _ (table_p.codes k))
    ∙ ap code_of (ap (λ j. coded_entry (get_or p.codes j 0)) (sym place) ∙ entries (k / 2) (symbol_of (k % 2)) ∙ ap (λ j. coded_entry (get_or q.codes j 0)) place)
    ∙ code_of-coded_entry _ (table_q.codes k) in
    let codes : p.codes ≡ q.codes = ext_get_or 0 p.codes q.codes (table_p.size ∙ sym table_q.size) (λ i below. same_code i) in
    ap (λ c. record { codes = c; states = p.states }) codes ∙ ap (λ n. record { codes = q.codes; states = n }) states

-- One pair of a map filled, and one entry more in a table.

-- two symbols are one, or not
pub cases_symbol : (s r : Sym) → ((s ≡ r) × (same_symbol s r ≡ true)) ⊎ ((s ≡ r → ⊥) × (same_symbol s r ≡ false))
cases_symbol Zero Zero = inl (refl, refl)
cases_symbol Zero One = inr (λ e. cc, refl)
cases_symbol One Zero = inr (λ e. cc, refl)
cases_symbol One One = inl (refl, refl)

-- the pair itself, or another pair, which stays as it was
pub record Filled (m : ℕ → Sym → Option Entry) (p : ℕ) (r : Sym) (e : Entry) (q : ℕ) (s : Sym) : Type 0 where
  pub state : q ≡ p
  pub symbol : s ≡ r
  pub is : filled m p r e q s ≡ Some e

pub record Kept (m : ℕ → Sym → Option Entry) (p : ℕ) (r : Sym) (e : Entry) (q : ℕ) (s : Sym) : Type 0 where
  pub other : q ≡ p → s ≡ r → ⊥
  pub is : filled m p r e q s ≡ m q s

pub filled_cases : (m : ℕ → Sym → Option Entry) (p : ℕ) (r : Sym) (e : Entry) (q : ℕ) (s : Sym) → Filled m p r e q s ⊎ Kept m p r e q s
unfolding filled
filled_cases m p r e q s = elim (cases_eq q p) [
  | inl same_state ↦ elim (cases_symbol s r) [
    | inl same ↦ inl (record { state = same_state; symbol = same.0; is = rw (eq-eqb q p same_state, same.1) })
    | inr other ↦ inr (record { other = λ _ h. other.0 h; is = rw (eq-eqb q p same_state, other.1) })
  ]
  | inr other ↦ inr (record { other = λ h _. other h; is = rw (ne_eqb q p other) })
]

-- a map of n states with one more entry is one
pub IsMapOf-filled : (n : ℕ) (m : ℕ → Sym → Option Entry) (p : ℕ) (r : Sym) (e : Entry) → IsMapOf n m → p < n → e.next.0 < n → IsMapOf n (filled m p r e)
IsMapOf-filled n m p r e map_of state target = record {
  some = map_of.some;
  limit = map_of.limit;
  beyond = λ q s past. elim (filled_cases m p r e q s) [
    | inl f ↦ absurd (omega (arith, f.state))
    | inr k ↦ k.is ∙ map_of.beyond q s past
  ];
  inside = λ q s. elim (filled_cases m p r e q s) [
    | inl f ↦ subst (λ (o : Option Entry). IfSome o (λ d. d.next.0 < n)) (sym f.is) target
    | inr k ↦ subst (λ (o : Option Entry). IfSome o (λ d. d.next.0 < n)) (sym k.is) (map_of.inside q s)
  ];
}

-- the next state of a code's entry
coded_target : (n k : ℕ) → (0 < k → (k - 1) % 8 < n) → IfSome (coded_entry k) (λ e. e.next.0 < n)
coded_target n zero nexts = tt
coded_target n (suc k) nexts =
    let some : eqb (suc k) 0 ≡ false = grind (arith, nat_tests) in
    rw some (nexts (omega arith))

-- the map of a table is one of its states
pub IsMapOf-table : (p : Packed) → IsTable p → IsMapOf p.states (entry_of p)
unfolding entry_of
IsMapOf-table p table = record {
  some = table.some;
  limit = table.limit;
  beyond = λ q s past. ap coded_entry (table.beyond (pair_place q s) (omega (arith, symbol_number-le s)));
  inside = λ q s. coded_target p.states (get_or p.codes (pair_place q s) 0) (table.nexts (pair_place q s));
}

-- the place of a table's pair is one of its codes' places
pub place_in : (p : Packed) (q : ℕ) (s : Sym) → IsTable p → q < p.states → pair_place q s < length p.codes
place_in p q s table lt = omega (arith, table.size, table.limit, symbol_number-le s)

-- each place is that of a pair
place_of : (k : ℕ) → pair_place (k / 2) (symbol_of (k % 2)) ≡ k
place_of k = let number = symbol_number-symbol_of (k % 2) (omega arith) in omega arith

symbol_at : (k q : ℕ) (s : Sym) → k ≡ pair_place q s → symbol_of (k % 2) ≡ s
symbol_at k q Zero same = let even : k % 2 ≡ 0 = omega arith in ap symbol_of even
symbol_at k q One same = let odd : k % 2 ≡ 1 = omega arith in ap symbol_of odd

module _ (p : Packed) (q : ℕ) (s : Sym) (e : Entry) (table : IsTable p) (state : q < p.states) (target : e.next.0 < p.states) where
  map_of : IsMapOf p.states (filled (entry_of p) q s e)
  map_of = IsMapOf-filled p.states (entry_of p) q s e (IsMapOf-table p table) state target

  -- a table with one more entry is one
  pub IsTable-with_entry : IsTable (with_entry p q s e)
  unfolding with_entry
  IsTable-with_entry = IsTable-tabulated p.states (filled (entry_of p) q s e) map_of

  pub entry_of-with_entry : (x : ℕ) (r : Sym) → entry_of (with_entry p q s e) x r ≡ filled (entry_of p) q s e x r
  unfolding with_entry
  entry_of-with_entry x r = entry_of-tabulated p.states (filled (entry_of p) q s e) map_of x r

  -- its codes are the table's, but for one
  stored_code : (k : ℕ) → get_or (tabulated p.states (filled (entry_of p) q s e)).codes k 0 ≡ get_or (set p.codes (pair_place q s) (code_of (Some e))) k 0
  unfolding entry_of
  stored_code k =
      codes-tabulated p.states (filled (entry_of p) q s e) map_of k ∙ (elim (filled_cases (entry_of p) q s e (k / 2) (symbol_of (k % 2))) [
        | inl f ↦ (
            let here : pair_place q s ≡ k = sym (ap (λ x. pair_place x s) f.state) ∙ sym (ap (pair_place (k / 2)) f.symbol) ∙ place_of k in
            ap code_of f.is ∙ sym (get_or-set_same p.codes (pair_place q s) (code_of (Some e)) 0 (place_in p q s table state))
            ∙ ap (λ x. get_or (set p.codes (pair_place q s) (code_of (Some e))) x 0) here)
        | inr kept ↦ (
            let other : k ≢ pair_place q s = λ same.
            let s_le = symbol_number-le s in
            let at : k / 2 ≡ q = omega arith in
            kept.other at (symbol_at k q s same)
            in
            ap code_of kept.is ∙ ap (λ x. code_of (coded_entry (get_or p.codes x 0))) (place_of k)
            ∙ code_of-coded_entry (get_or p.codes k 0) (table.codes k)
            ∙ sym (get_or-set_other p.codes (pair_place q s) k (code_of (Some e)) 0 other))
      ])

  pub with_entry-stored : with_entry p q s e ≡ record { codes = set p.codes (pair_place q s) (code_of (Some e)); states = p.states }
  unfolding with_entry tabulated
  with_entry-stored =
      let size : length (tabulated p.states (filled (entry_of p) q s e)).codes ≡ length (set p.codes (pair_place q s) (code_of (Some e))) =
      (IsTable-tabulated p.states (filled (entry_of p) q s e) map_of).size ∙ sym table.size ∙ sym (length-set p.codes (pair_place q s) (code_of (Some e)))
      in
      ap (λ c. record { codes = c; states = p.states }) (ext_get_or 0 _ _ size (λ k below. stored_code k))

-- The undefined pairs of a table, counted among its codes.
hole_of_code : (k : ℕ) → cond (eqb k 0) 1 0 ≡ hole (coded_entry k)
hole_of_code zero = refl
hole_of_code (suc k) =
    let some : eqb (suc k) 0 ≡ false = grind (arith, nat_tests) in
    rw some refl

pub count_by-holes : (p : Packed) (n : ℕ) → 2 * n ≤ length p.codes → count_by (λ k. eqb k 0) (take (2 * n) p.codes) ≡ holes n (entry_of p)
unfolding holes entry_of
count_by-holes p zero within = refl
count_by-holes p (suc n) within =
    let one = λ (k : ℕ). cond (eqb k 0) 1 0 in
    let two : 2 * suc n ≡ 2 * n + 1 + 1 = omega arith in
    let first : count_by (λ k. eqb k 0) (take (2 * n + 1) p.codes) ≡ count_by (λ k. eqb k 0) (take (2 * n) p.codes) + cond (eqb (get_or p.codes (2 * n) 0) 0) 1 0 = sum_by_more one p.codes (2 * n) 0 (omega arith) in
    let second : count_by (λ k. eqb k 0) (take (2 * n + 1 + 1) p.codes) ≡ count_by (λ k. eqb k 0) (take (2 * n + 1) p.codes) + cond (eqb (get_or p.codes (2 * n + 1) 0) 0) 1 0 = sum_by_more one p.codes (2 * n + 1) 0 (omega arith) in
    let rest = count_by-holes p n (omega arith) in
    let zero_pair : hole (coded_entry (get_or p.codes (2 * n + 0) 0)) ≡ cond (eqb (get_or p.codes (2 * n) 0) 0) 1 0 = ap (λ i. hole (coded_entry (get_or p.codes i 0))) (let e : 2 * n + 0 ≡ 2 * n = omega arith in e) ∙ sym (hole_of_code (get_or p.codes (2 * n) 0)) in
    let one_pair = hole_of_code (get_or p.codes (2 * n + 1) 0) in
    ap (λ i. count_by (λ k. eqb k 0) (take i p.codes)) two ∙ omega (arith, first, second, rest, zero_pair, one_pair)
