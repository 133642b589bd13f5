-- The children's entries stand each once in text order, and their bests have a greatest.
use Rattle.std.proofs.Common.{◌≡◌, ℕ, ◌+◌, ◌*◌, ◌<◌, List, ◌++◌, length, get_or, refl, sym, ◌∙◌, ap, subst, inl, inr, arith, ◌-◌, ◌≤◌, zero, suc, [], ◌∷◌, Option, Some, unwrap_or, ◌⊎◌}
use Prim.Native.Nat.{min, max}
use Rattle.std.specs.List.{Contains, AllPairs, fold}
use Rattle.std.proofs.lemmas.Bool.{eq-eqb, ne_eqb, cases_lt, cases_eq}
use Rattle.std.proofs.lemmas.List.FromFn.{length-map-range_with_len, get_or-map-range_with_len}
use Rattle.std.proofs.lemmas.List.Elements.{Contains-append_left, Contains-append_right, Contains-append_cases}
use Rattle.std.proofs.lemmas.List.{length-append, get_or_append_left, get_or-append_right}
use Rattle.machine_text.specs.declared.table.Sym.{Sym}
use Rattle.machine_text.specs.declared.table.Sym.TheVariants.{Zero, One}
use Rattle.machine_text.specs.declared.table.Dir.{Dir}
use Rattle.machine_text.specs.declared.table.Dir.TheVariants.{L, R}
use Rattle.machine_text.specs.declared.table.Entry.{Entry}
use Rattle.machine_text.specs.Terms.{holes, symbol_number, direction_number}
use Rattle.law_turing.specs.Terms.{Machine, IsMachine}
use Rattle.law_tree.specs.Tree.{IsChildEntry, entries_to, child_entries, move_number, Precedes, IsGreatestOf, greatest_of}
use Rattle.law_tree.proofs.Filling.{cases_empty, cases_option}

-- The list of the children's entries: its members are exactly those entries, each once, in text order.

-- two entries with the same parts are one
pub same_entry : (a b : Entry) → a.write ≡ b.write → a.dir ≡ b.dir → a.next.0 ≡ b.next.0 → a ≡ b
same_entry a b w d q = λ i. record { write = w i; dir = d i; next = record { 0 = q i } }

-- the entry to a state
abbrev pub to : Sym → Dir → ℕ → Entry
to w d q = record { write = w; dir = d; next = record { 0 = q } }

pub length_to : (t : ℕ) (w : Sym) (d : Dir) → length (entries_to t w d) ≡ t
length_to t w d = length-map-range_with_len (to w d) 0 t

pub to_at : (t : ℕ) (w : Sym) (d : Dir) (k : ℕ) (x : Entry) → k < t → get_or (entries_to t w d) k x ≡ to w d k
to_at t w d k x lt = get_or-map-range_with_len (to w d) 0 t k k x lt (omega arith)

-- which entries stand among those to the first t states
pub record GoesTo (t : ℕ) (w : Sym) (d : Dir) (e : Entry) : Type 0 where
  pub target : e.next.0 < t
  pub write : e.write ≡ w
  pub dir : e.dir ≡ d

goes_to : (t : ℕ) (w : Sym) (d : Dir) (e : Entry) → Contains (entries_to t w d) e → GoesTo t w d e
goes_to t w d e c =
    let lt : c.0 < t = omega (arith, c.1, length_to t w d) in
    let same : to w d c.0 ≡ e = sym (to_at t w d c.0 e lt) ∙ c.2 in
    record {
      target = omega (arith, ap (λ (x : Entry). x.next.0) same);
      write = sym (ap (λ (x : Entry). x.write) same);
      dir = sym (ap (λ (x : Entry). x.dir) same);
    }

stands_to : (t : ℕ) (w : Sym) (d : Dir) (e : Entry) → GoesTo t w d e → Contains (entries_to t w d) e
stands_to t w d e g = (e.next.0, omega (arith, g.target, length_to t w d), to_at t w d e.next.0 e g.target ∙ same_entry (to w d e.next.0) e (sym g.write) (sym g.dir) refl)

-- the entries to the right, and those both ways
abbrev pub right_entries : ℕ → List Entry
right_entries t = entries_to t Zero R ++ entries_to t One R

abbrev pub both_entries : ℕ → List Entry
both_entries t = (entries_to t Zero L ++ entries_to t Zero R) ++ (entries_to t One L ++ entries_to t One R)

right_found : (t : ℕ) (e : Entry) → Contains (right_entries t) e → (e.next.0 < t) × (e.dir ≡ R)
right_found t e c = elim (Contains-append_cases (entries_to t Zero R) (entries_to t One R) e c) [
  | inl zeros ↦ let g = goes_to t Zero R e zeros in (g.target, g.dir)
  | inr ones ↦ let g = goes_to t One R e ones in (g.target, g.dir)
]

right_stands : (t : ℕ) (e : Entry) → e.next.0 < t → e.dir ≡ R → Contains (right_entries t) e
right_stands t e lt right = go e.write refl
  where
    go : (w : Sym) → e.write ≡ w → Contains (right_entries t) e
    go Zero is = Contains-append_left (entries_to t Zero R) (entries_to t One R) e (stands_to t Zero R e (record { target = lt; write = is; dir = right }))
    go One is = Contains-append_right (entries_to t Zero R) (entries_to t One R) e (stands_to t One R e (record { target = lt; write = is; dir = right }))

two_found : (t : ℕ) (w : Sym) (e : Entry) → Contains (entries_to t w L ++ entries_to t w R) e → e.next.0 < t
two_found t w e c = elim (Contains-append_cases (entries_to t w L) (entries_to t w R) e c) [
  | inl left ↦ (goes_to t w L e left).target
  | inr right ↦ (goes_to t w R e right).target
]

two_stand : (t : ℕ) (w : Sym) (e : Entry) → e.next.0 < t → e.write ≡ w → Contains (entries_to t w L ++ entries_to t w R) e
two_stand t w e lt is = go e.dir refl
  where
    go : (d : Dir) → e.dir ≡ d → Contains (entries_to t w L ++ entries_to t w R) e
    go L dir = Contains-append_left (entries_to t w L) (entries_to t w R) e (stands_to t w L e (record { target = lt; write = is; dir = dir }))
    go R dir = Contains-append_right (entries_to t w L) (entries_to t w R) e (stands_to t w R e (record { target = lt; write = is; dir = dir }))

both_found : (t : ℕ) (e : Entry) → Contains (both_entries t) e → e.next.0 < t
both_found t e c = elim (Contains-append_cases (entries_to t Zero L ++ entries_to t Zero R) (entries_to t One L ++ entries_to t One R) e c) [
  | inl zeros ↦ two_found t Zero e zeros
  | inr ones ↦ two_found t One e ones
]

both_stand : (t : ℕ) (e : Entry) → e.next.0 < t → Contains (both_entries t) e
both_stand t e lt = go e.write refl
  where
    go : (w : Sym) → e.write ≡ w → Contains (both_entries t) e
    go Zero is = Contains-append_left (entries_to t Zero L ++ entries_to t Zero R) (entries_to t One L ++ entries_to t One R) e (two_stand t Zero e lt is)
    go One is = Contains-append_right (entries_to t Zero L ++ entries_to t Zero R) (entries_to t One L ++ entries_to t One R) e (two_stand t One e lt is)

-- the list by whether the machine is empty
pub list_empty : (n u : ℕ) (m : Machine) → holes n m ≡ 2 * n → child_entries n u m ≡ right_entries (min n (u + 1))
unfolding child_entries
list_empty n u m all = rw (eq-eqb (holes n m) (2 * n) all)

pub list_filled : (n u : ℕ) (m : Machine) → (holes n m ≡ 2 * n → ⊥) → child_entries n u m ≡ both_entries (min n (u + 1))
unfolding child_entries
list_filled n u m some = rw (ne_eqb (holes n m) (2 * n) some)

-- what stands in the list is an entry of a child
pub listed_is_entry : (n u : ℕ) (m : Machine) (e : Entry) → IsMachine n m → Contains (child_entries n u m) e → IsChildEntry n u m e
listed_is_entry n u m e i c = elim (cases_empty n m i) [
  | inl empty ↦ (
      let here : Contains (right_entries (min n (u + 1))) e = subst (λ (es : List Entry). Contains es e) (list_empty n u m empty.1) c in
      let found = right_found (min n (u + 1)) e here in
      record { within = omega (arith, found.0); target = omega (arith, found.0); right = λ _. found.1 })
  | inr some ↦ (
      let here : Contains (both_entries (min n (u + 1))) e = subst (λ (es : List Entry). Contains es e) (list_filled n u m some.1) c in
      let found = both_found (min n (u + 1)) e here in
      record { within = omega arith; target = omega arith; right = λ empty. absurd (some.0 empty) })
]

-- and each such entry stands in it
pub entry_is_listed : (n u : ℕ) (m : Machine) (e : Entry) → IsMachine n m → IsChildEntry n u m e → Contains (child_entries n u m) e
entry_is_listed n u m e i x = elim (cases_empty n m i) [
  | inl empty ↦ subst (λ (es : List Entry). Contains es e) (sym (list_empty n u m empty.1)) (right_stands (min n (u + 1)) e (omega (arith, x.within, x.target)) (x.right empty.0))
  | inr some ↦ subst (λ (es : List Entry). Contains es e) (sym (list_filled n u m some.1)) (both_stand (min n (u + 1)) e (omega (arith, x.within, x.target)))
]

-- The list of the children's entries rises in text order, so no entry stands in it twice.

-- a relation from each element of one list to each of another
abbrev Across : {X : Type 0} → (X → X → Type 0) → List X → List X → Type 0
Across {X} Q xs ys = (i j : ℕ) (d : X) → i < length xs → j < length ys → Q (get_or xs i d) (get_or ys j d)

-- it holds of the pairs of two lists joined where it does within each and across
pairs_append : {X : Type 0} (Q : X → X → Type 0) (xs ys : List X) → AllPairs Q xs → AllPairs Q ys → Across Q xs ys → AllPairs Q (xs ++ ys)
pairs_append Q xs ys in_xs in_ys across i j d less within =
    let len = length-append xs ys in
    elim (cases_lt j (length xs)) [
      | inl below ↦ rw (get_or_append_left xs ys d i (omega arith), get_or_append_left xs ys d j below) (in_xs i j d less below)
      | inr above ↦ elim (cases_lt i (length xs)) [
        | inl first ↦ rw (get_or_append_left xs ys d i first, get_or-append_right xs ys (length xs) j d refl above) (across i (j - length xs) d first (omega arith))
        | inr second ↦ rw (get_or-append_right xs ys (length xs) i d refl second, get_or-append_right xs ys (length xs) j d refl above) (in_ys (i - length xs) (j - length xs) d (omega arith) (omega arith))
      ]
    ]

-- every entry of a list writes a symbol below a number, or above it
abbrev Moves : (ℕ → Type 0) → List Entry → Type 0
Moves P es = (k : ℕ) (d : Entry) → k < length es → P (move_number (get_or es k d))

moves_append : (P : ℕ → Type 0) (xs ys : List Entry) → Moves P xs → Moves P ys → Moves P (xs ++ ys)
moves_append P xs ys in_xs in_ys k d lt =
    let len = length-append xs ys in
    elim (cases_lt k (length xs)) [
      | inl first ↦ rw (get_or_append_left xs ys d k first) (in_xs k d first)
      | inr second ↦ rw (get_or-append_right xs ys (length xs) k d refl second) (in_ys (k - length xs) d (omega arith))
    ]

moves_to : (P : ℕ → Type 0) (t : ℕ) (w : Sym) (v : Dir) → P (2 * symbol_number w + direction_number v) → Moves P (entries_to t w v)
moves_to P t w v h k d lt = rw (to_at t w v k d (omega (arith, length_to t w v))) h

-- the entries with one symbol and one direction rise by their targets
rising_to : (t : ℕ) (w : Sym) (v : Dir) → AllPairs Precedes (entries_to t w v)
rising_to t w v i j d less within =
    let lt : j < t = omega (arith, length_to t w v) in
    rw (to_at t w v i d (omega arith), to_at t w v j d lt) (inr (refl, less))

-- lists of lower and of higher moves
rising_across : (b : ℕ) (xs ys : List Entry) → Moves (λ k. k < b) xs → Moves (λ k. b ≤ k) ys → Across Precedes xs ys
rising_across b xs ys low high i j d first second = inl (omega (arith, low i d first, high j d second))

rising_right : (t : ℕ) → AllPairs Precedes (right_entries t)
rising_right t = pairs_append Precedes (entries_to t Zero R) (entries_to t One R) (rising_to t Zero R) (rising_to t One R)
    (rising_across 2 (entries_to t Zero R) (entries_to t One R) (moves_to (λ k. k < 2) t Zero R (omega arith)) (moves_to (λ k. 2 ≤ k) t One R (omega arith)))

rising_two : (t : ℕ) (w : Sym) → AllPairs Precedes (entries_to t w L ++ entries_to t w R)
rising_two t w = pairs_append Precedes (entries_to t w L) (entries_to t w R) (rising_to t w L) (rising_to t w R)
    (rising_across (2 * symbol_number w + 1) (entries_to t w L) (entries_to t w R)
    (moves_to (λ k. k < 2 * symbol_number w + 1) t w L (omega arith)) (moves_to (λ k. 2 * symbol_number w + 1 ≤ k) t w R (omega arith)))

rising_both : (t : ℕ) → AllPairs Precedes (both_entries t)
rising_both t = pairs_append Precedes (entries_to t Zero L ++ entries_to t Zero R) (entries_to t One L ++ entries_to t One R) (rising_two t Zero) (rising_two t One)
    (rising_across 2 (entries_to t Zero L ++ entries_to t Zero R) (entries_to t One L ++ entries_to t One R)
    (moves_append (λ k. k < 2) (entries_to t Zero L) (entries_to t Zero R) (moves_to (λ k. k < 2) t Zero L (omega arith)) (moves_to (λ k. k < 2) t Zero R (omega arith)))
    (moves_append (λ k. 2 ≤ k) (entries_to t One L) (entries_to t One R) (moves_to (λ k. 2 ≤ k) t One L (omega arith)) (moves_to (λ k. 2 ≤ k) t One R (omega arith))))

-- the children's entries rise
pub entries_rise : (n u : ℕ) (m : Machine) → AllPairs Precedes (child_entries n u m)
entries_rise n u m = elim (cases_eq (holes n m) (2 * n)) [
  | inl all ↦ subst (λ (es : List Entry). AllPairs Precedes es) (sym (list_empty n u m all)) (rising_right (min n (u + 1)))
  | inr some ↦ subst (λ (es : List Entry). AllPairs Precedes es) (sym (list_filled n u m some)) (rising_both (min n (u + 1)))
]

-- an entry doesn't precede itself
pub precedes_other : (a b : Entry) → Precedes a b → a ≡ b → ⊥
precedes_other a b p same =
    let moves = ap move_number same in
    let targets = ap (λ (x : Entry). x.next.0) same in
    elim p [ inl less ↦ omega arith | inr later ↦ omega arith ]

pub entries_differ : (n u : ℕ) (m : Machine) → AllPairs (λ a b. a ≡ b → ⊥) (child_entries n u m)
entries_differ n u m i j d less within = precedes_other _ _ (entries_rise n u m i j d less within)

-- The greatest of the children's bests, along the list of their entries.

-- g is the greatest of k and of what the entries of the list have by b
record GreatestIn (k : ℕ) (b : Entry → Option ℕ) (es : List Entry) (g : ℕ) : Type 0 where
  own : k ≤ g
  each : (e : Entry) (t : ℕ) → Contains es e → b e ≡ Some t → t ≤ g
  one : (g ≡ k) ⊎ ((e : Entry) × Contains es e × (b e ≡ Some g))

abbrev step : (Entry → Option ℕ) → ℕ → Entry → ℕ
step b g e = max g (unwrap_or (b e) 0)

first_bound : (b : Entry → Option ℕ) (k t : ℕ) (x : Entry) → b x ≡ Some t → t ≤ step b k x
first_bound b k t x is = omega (arith, ap (λ o. unwrap_or o 0) is)

first_one : (b : Entry → Option ℕ) (k : ℕ) (x : Entry) → (step b k x ≡ k) ⊎ (b x ≡ Some (step b k x))
first_one b k x = elim (cases_option (b x)) [
  | inl none ↦ inl (omega (arith, ap (λ o. unwrap_or o 0) none))
  | inr some ↦ (
      let value = ap (λ o. unwrap_or o 0) some.1 in
      elim (cases_lt k some.0) [
        | inl less ↦ inr (some.1 ∙ ap Some (omega arith))
        | inr more ↦ inl (omega arith)
      ])
]

in_tail : (x : Entry) (es : List Entry) (e : Entry) → Contains es e → Contains (x ∷ es) e
in_tail x es e c = (suc c.0, omega (arith, c.1), c.2)

greatest_more : (b : Entry → Option ℕ) (x : Entry) (es : List Entry) (k g : ℕ) → GreatestIn (step b k x) b es g → GreatestIn k b (x ∷ es) g
greatest_more b x es k g rest = record {
  own = let own = rest.own in omega arith;
  each = λ e t c is. each e t c.0 c.1 c.2 is;
  one = elim rest.one [
    | inl same ↦ elim (first_one b k x) [
      | inl own ↦ inl (same ∙ own)
      | inr first ↦ inr (x, (0, omega arith, refl), first ∙ ap Some (sym same))
    ]
    | inr later ↦ inr (later.0, in_tail x es later.0 later.1, later.2)
  ];
}
  where
    each : (e : Entry) (t i : ℕ) → i < length (x ∷ es) → get_or (x ∷ es) i e ≡ e → b e ≡ Some t → t ≤ g
    each e t zero lt at is = let first = first_bound b k t x (ap b at ∙ is) in let own = rest.own in omega arith
    each e t (suc i) lt at is = rest.each e t (i, omega arith, at) is

greatest_in : (b : Entry → Option ℕ) (es : List Entry) (k : ℕ) → GreatestIn k b es (fold (step b) k es)
greatest_in b [] k = record { own = omega arith; each = λ e t c is. absurd (omega (arith, c.1)); one = inl refl }
greatest_in b (x ∷ es) k = greatest_more b x es k (fold (step b) (step b k x) es) (greatest_in b es (step b k x))

-- along the children's entries it is the greatest of the children's
pub greatest_listed : (n u : ℕ) (m : Machine) (k : ℕ) (b : Entry → Option ℕ) → IsMachine n m → IsGreatestOf n u m k b (greatest_of k b (child_entries n u m))
unfolding greatest_of
greatest_listed n u m k b i =
    let g = greatest_in b (child_entries n u m) k in
    record {
      one = elim g.one [
        | inl own ↦ inl own
        | inr child ↦ inr (child.0, listed_is_entry n u m child.0 i child.1, child.2)
      ];
      own = g.own;
      each = λ e t c is. g.each e t (entry_is_listed n u m e i c) is;
    }
