-- States that entries use are marked one after another, are counted, and show whether they are in order.
use Rattle.std.proofs.Common.{◌≡◌, ℕ, zero, suc, ◌+◌, ◌-◌, ◌<◌, ◌≤◌, Bool, true, false, ◌||◌, ◌&&◌, ◌==◌, ltb, is_some, Option, Some, None, List, length, get_or, set, take, map, refl, sym, ◌∙◌, ap, inl, inr, arith, ◌↔◌, cond, [], ◌∷◌, drop, subst}
use Rattle.std.specs.List.{range_with_len, filter, count_by, Contains, AllPairs, EachIndex}
use Rattle.std.specs.Prelude.{replicate}
use Rattle.std.proofs.lemmas.Bool.{cases_eq, eq-eqb, ne_eqb, cases_lt, lt-ltb, le-ltb, false≢true}
use Rattle.std.proofs.lemmas.List.{get_or-replicate, get_or-take, length-take-le, length-drop, get_or-drop}
use Rattle.std.proofs.lemmas.List.FromFn.{fill_by_all, length-range_with_len, get_or-range_with_len, length-map-range_with_len, get_or-map-range_with_len}
use Rattle.std.proofs.lemmas.List.Elements.{All-contains, filter_passes}
use Rattle.std.proofs.lemmas.List.Kept.{AllPairs-filter}
use Rattle.std.proofs.lemmas.List.Sums.{sum_by-cons, length-filter}
use Rattle.machine_text.specs.Terms.{state_limit}
use Rattle.machine_text.specs.declared.table.Sym.TheVariants.{Zero, One}
use Rattle.machine_text.specs.declared.table.Entry.{Entry}
use Rattle.law_turing.specs.Terms.{Machine, IsMachine}
use Rattle.law_tree.specs.Terms.{leads_to, has_entry, is_target, is_used, IsUsed, InOrder, used_count}
use Rattle.tnf.specs.inside.{is_named}
use Rattle.law_tree.proofs.Used.{used_within, used_from_test, test_from_used, order_test, order_from_test}
use Rattle.tnf.specs.Children.{IsNumberOfUsed}

-- The states that the entries of the first states use, marked one after the other.

-- a state is marked once the entries of the first states are
abbrev pub marked : ℕ → Machine → ℕ → Bool
marked i m q = (q == 0) || ((ltb q i && has_entry m q) || is_target i m q)

-- the marks in another order
reordered : (a h t p r l k : Bool) → (((a || (h || t)) || (p || l)) || (r || k)) ≡ (a || ((h || (p || r)) || ((l || k) || t)))
reordered true h t p r l k = refl
reordered false true t p r l k = refl
reordered false false true true r l k = refl
reordered false false true false true l k = refl
reordered false false true false false true k = refl
reordered false false true false false false true = refl
reordered false false true false false false false = refl
reordered false false false true r l k = refl
reordered false false false false true true k = refl
reordered false false false false true false k = refl
reordered false false false false false true k = refl
reordered false false false false false false true = refl
reordered false false false false false false false = refl

-- an entry names its state and its target
named_parts : (i : ℕ) (o : Option Entry) (q : ℕ) → is_named i o q ≡ (((q == i) && is_some o) || leads_to o q)
named_parts i None q = none (q == i)
  where
    none : (b : Bool) → false ≡ ((b && false) || false)
    none true = refl
    none false = refl
named_parts i (Some e) q = some (q == i)
  where
    some : (b : Bool) → (b || (e.next.0 == q)) ≡ ((b && true) || (e.next.0 == q))
    some true = refl
    some false = refl

here : (x y z e f g : Bool) → x ≡ true → y ≡ false → z ≡ true → e ≡ (f || g) → (x && e) ≡ ((y && e) || ((z && f) || (z && g)))
here true false true e f g p n h s = s
here true false false e f g p n h s = absurd (cc)
here true true z e f g p n h s = absurd (cc)
here false y z e f g p n h s = absurd (cc)

there : (x y z e f g : Bool) → x ≡ y → z ≡ false → (x && e) ≡ ((y && e) || ((z && f) || (z && g)))
there x y true e f g p n = absurd (cc)
there x y false e f g p n = ap (λ b. b && e) p ∙ nothing (y && e)
  where
    nothing : (b : Bool) → b ≡ (b || false)
    nothing true = refl
    nothing false = refl

-- one state more has its entries
entries_more : (i : ℕ) (m : Machine) (q : ℕ) → (ltb q (i + 1) && has_entry m q) ≡ ((ltb q i && has_entry m q) || (((q == i) && is_some (m i Zero)) || ((q == i) && is_some (m i One))))
entries_more i m q = elim (cases_eq q i) [
  | inl same ↦ here (ltb q (i + 1)) (ltb q i) (q == i) (has_entry m q) (is_some (m i Zero)) (is_some (m i One)) (lt-ltb q (i + 1) (omega arith)) (le-ltb q i (omega arith)) (eq-eqb q i same) (ap (has_entry m) same)
  | inr other ↦ there (ltb q (i + 1)) (ltb q i) (q == i) (has_entry m q) (is_some (m i Zero)) (is_some (m i One)) (below other) (ne_eqb q i other)
]
  where
    below : (q ≡ i → ⊥) → ltb q (i + 1) ≡ ltb q i
    below other = elim (cases_lt q i) [
      | inl less ↦ lt-ltb q (i + 1) (omega arith) ∙ sym (lt-ltb q i less)
      | inr ge ↦ le-ltb q (i + 1) (omega arith) ∙ sym (le-ltb q i ge)
    ]

target_more : (i : ℕ) (m : Machine) (q : ℕ) → is_target (i + 1) m q ≡ ((leads_to (m i Zero) q || leads_to (m i One) q) || is_target i m q)
unfolding is_target
target_more i m q = let more : i + 1 ≡ suc i = omega arith in ap (λ k. is_target k m q) more

-- the marks of one state more
pub marked_more : (i : ℕ) (m : Machine) (q : ℕ) → ((marked i m q || is_named i (m i Zero) q) || is_named i (m i One) q) ≡ marked (i + 1) m q
marked_more i m q =
    rw (named_parts i (m i Zero) q, named_parts i (m i One) q, entries_more i m q, target_more i m q)
    (reordered (q == 0) (ltb q i && has_entry m q) (is_target i m q) ((q == i) && is_some (m i Zero)) ((q == i) && is_some (m i One)) (leads_to (m i Zero) q) (leads_to (m i One) q))

-- the marks once the entries of the first states are marked
pub record AreMarked (used : List Bool) (i : ℕ) (m : Machine) : Type 0 where
  pub size : length used ≡ state_limit
  pub each : (q : ℕ) → q < state_limit → get_or used q false ≡ marked i m q

-- at first A alone is marked
no_others : (q : ℕ) → suc q < state_limit → get_or (set (replicate state_limit false) 0 true) (suc q) false ≡ false
no_others q lt = get_or-replicate (state_limit - 1) q false false (omega arith)

pub marked_none : (m : Machine) → AreMarked (set (replicate state_limit false) 0 true) 0 m
unfolding is_target
marked_none m = record { size = refl; each = each }
  where
    none : (q : ℕ) → marked 0 m (suc q) ≡ false
    none q =
        ap (λ x. x || ((ltb (suc q) 0 && has_entry m (suc q)) || is_target 0 m (suc q))) (ne_eqb (suc q) 0 (λ h. omega arith))
        ∙ ap (λ x. (x && has_entry m (suc q)) || is_target 0 m (suc q)) (le-ltb (suc q) 0 (omega arith))

    each : (q : ℕ) → q < state_limit → get_or (set (replicate state_limit false) 0 true) q false ≡ marked 0 m q
    each zero lt = refl
    each (suc q) lt = no_others q lt ∙ sym (none q)

-- then the entries of one state after the other
pub marked_step : (u v w : List Bool) (i : ℕ) (m : Machine) → AreMarked u i m → length v ≡ length u → length w ≡ length v →
    ((q : ℕ) → get_or v q false ≡ (get_or u q false || is_named i (m i Zero) q)) →
    ((q : ℕ) → get_or w q false ≡ (get_or v q false || is_named i (m i One) q)) → AreMarked w (i + 1) m
marked_step u v w i m a lv lw zeros ones = record {
  size = omega (arith, a.size);
  each = λ q lt. ones q ∙ ap (λ b. b || is_named i (m i One) q) (zeros q ∙ ap (λ b. b || is_named i (m i Zero) q) (a.each q lt)) ∙ marked_more i m q;
}

-- and once all are, the used states are marked
pub marked_all : (used : List Bool) (n : ℕ) (m : Machine) → n ≤ state_limit → AreMarked used n m → take n used ≡ map (is_used n m) (range_with_len 0 n)
unfolding is_used
marked_all used n m le a = fill_by_all (is_used n m) (take n used) n false (length-take-le n used (omega (arith, a.size))) each
  where
    each : (k : ℕ) → k < n → get_or (take n used) k false ≡ is_used n m k
    each k lt = get_or-take n used k false lt ∙ a.each k (omega arith) ∙ ap (λ b. (k == 0) || ((b && has_entry m k) || is_target n m k)) (lt-ltb k n lt)

-- The used states as a list, their number, and when the marks show that they are in order.

-- what stands in a list and passes stands among those that pass
kept : (p : ℕ → Bool) (xs : List ℕ) (x k : ℕ) → k < length xs → get_or xs k x ≡ x → p x ≡ true → Contains (filter p xs) x
kept p [] x k lt is pass = absurd (omega arith)
kept p (y ∷ ys) x zero lt is pass = subst (λ b. Contains (cond b (y ∷ filter p ys) (filter p ys)) x) (sym (ap p is ∙ pass)) (0, omega arith, is)
kept p (y ∷ ys) x (suc k) lt is pass = more (kept p ys x k (omega arith) is pass) (p y)
  where
    more : Contains (filter p ys) x → (b : Bool) → Contains (cond b (y ∷ filter p ys) (filter p ys)) x
    more rest true = (suc rest.0, omega (arith, rest.1), rest.2)
    more rest false = rest

rising : (n : ℕ) → AllPairs (λ a b. a < b) (range_with_len 0 n)
rising n i j d less within =
    let size = length-range_with_len 0 n in
    let low = get_or-range_with_len 0 n i d (omega arith) in
    let high = get_or-range_with_len 0 n j d (omega arith) in
    omega arith

-- the states that pass the test are the used ones
pub number_of_used : (n k : ℕ) (m : Machine) → IsMachine n m → k ≡ used_count n m → IsNumberOfUsed k m
unfolding used_count
number_of_used n k m i is = record {
  states = filter (is_used n m) (range_with_len 0 n);
  rising = AllPairs-filter (λ a b. a < b) (is_used n m) (range_with_len 0 n) (rising n);
  members = λ q. (there q, back q);
  number = is ∙ sym (length-filter (is_used n m) (range_with_len 0 n));
}
  where
    there : (q : ℕ) → Contains (filter (is_used n m) (range_with_len 0 n)) q → IsUsed m q
    there q c = used_from_test n m q (All-contains (λ x. is_used n m x ≡ true) (filter (is_used n m) (range_with_len 0 n)) q (filter_passes (is_used n m) (range_with_len 0 n)) c)

    back : (q : ℕ) → IsUsed m q → Contains (filter (is_used n m) (range_with_len 0 n)) q
    back q u =
        let lt = used_within n m q i u in
        kept (is_used n m) (range_with_len 0 n) q q (omega (arith, length-range_with_len 0 n)) (omega (arith, get_or-range_with_len 0 n q q lt)) (test_from_used n m q i u)

-- the marks that are true are as many as the states that pass
counted : (f : ℕ → Bool) (xs : List ℕ) → count_by (λ b. b) (map f xs) ≡ count_by f xs
counted f [] = refl
counted f (x ∷ xs) =
    let left = sum_by-cons (λ (b : Bool). cond b 1 0) (f x) (map f xs) in
    let right = sum_by-cons (λ (y : ℕ). cond (f y) 1 0) x xs in
    left ∙ ap (λ k. cond (f x) 1 0 + k) (counted f xs) ∙ sym right

pub count_of_marks : (n k : ℕ) (m : Machine) (marks : List Bool) → marks ≡ map (is_used n m) (range_with_len 0 n) → k ≡ count_by (λ b. b) marks → k ≡ used_count n m
unfolding used_count
count_of_marks n k m marks are is = is ∙ ap (count_by (λ b. b)) are ∙ counted (is_used n m) (range_with_len 0 n)

-- in order: from the first unused state on, none is used
module _ (n u : ℕ) (m : Machine) (marks : List Bool) (i : IsMachine n m) (are : marks ≡ map (is_used n m) (range_with_len 0 n))
    (le : u ≤ length marks) (before : (q : ℕ) → q < u → get_or marks q false ≡ true) (at : u < length marks → get_or marks u false ≡ false) where
  abbrev pub others : List Bool
  others = take (length marks - u) (drop u marks)

  len : length marks ≡ n
  len = ap length are ∙ length-map-range_with_len (is_used n m) 0 n

  size : length others ≡ n - u
  size = length-take-le (length marks - u) (drop u marks) (omega (arith, length-drop u marks)) ∙ ap (λ k. k - u) len

  from : (k : ℕ) → k < n - u → get_or others k false ≡ get_or marks (u + k) false
  from k lt = get_or-take (length marks - u) (drop u marks) k false (omega (arith, len)) ∙ get_or-drop u marks k false

  mark : (q : ℕ) → q < n → get_or marks q false ≡ is_used n m q
  mark q lt = ap (λ (xs : List Bool). get_or xs q false) are ∙ get_or-map-range_with_len (is_used n m) 0 n q q false lt (omega arith)

  order_shown : EachIndex others (λ k. get_or others k false ≡ false) → InOrder u m
  order_shown none = order_from_test n u m i (omega (arith, len)) test
    where
      test : (q : ℕ) → q < n → is_used n m q ≡ ltb q u
      test q lt = elim (cases_lt q u) [
        | inl less ↦ sym (mark q lt) ∙ before q less ∙ sym (lt-ltb q u less)
        | inr ge ↦ (
            let here : u + (q - u) ≡ q = omega arith in
            let off : get_or marks (u + (q - u)) false ≡ false = sym (from (q - u) (omega arith)) ∙ none (q - u) (omega (arith, size)) in
            sym (mark q lt) ∙ sym (ap (λ k. get_or marks k false) here) ∙ off ∙ sym (le-ltb q u ge))
      ]

  order_needs : (v : ℕ) → InOrder v m → EachIndex others (λ k. get_or others k false ≡ false)
  order_needs v o k lt =
      let some : u < n = omega (arith, size) in
      let tested : (q : ℕ) → q < n → get_or marks q false ≡ ltb q v = λ q lt. mark q lt ∙ order_test n v m i o q in
      let low : v ≤ u = elim (cases_lt u v) [
        | inl less ↦ absurd (false≢true (sym (at (omega (arith, len))) ∙ tested u (omega (arith, len)) ∙ lt-ltb u v less))
        | inr ge ↦ ge
      ] in
      from k (omega (arith, size)) ∙ tested (u + k) (omega (arith, size)) ∙ le-ltb (u + k) v (omega arith)

  pub order_by_marks : EachIndex others (λ k. get_or others k false ≡ false) ↔ ((v : ℕ) × InOrder v m)
  order_by_marks = (λ none. (u, order_shown none), λ o. order_needs o.0 o.1)
