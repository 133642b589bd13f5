-- Which states are used, in which order, how they are tested, and how many there are.
use Rattle.std.proofs.Common.{◌≡◌, ℕ, ◌+◌, ◌<◌, ◌≤◌, None, refl, sym, ◌∙◌, ap, inl, inr, arith, suc, zero, ◌-◌, Bool, true, cond, ◌||◌, ◌==◌, ltb, Option, Some, is_some, count_by, subst}
use Prim.Native.Nat.{max, min}
use Rattle.std.proofs.lemmas.Bool.{cases_lt, cases_order, cases_eq, false≢true, eqb-true, eq-eqb, lt-ltb, ltb-true, le-ltb, or_cases, or_left, or_right, false_from_ne_true}
use Rattle.std.proofs.lemmas.Option.{same_Some}
use Rattle.std.specs.List.{range_with_len}
use Rattle.std.proofs.lemmas.List.Sums.{sum_by-cons}
use Rattle.machine_text.specs.declared.table.Sym.{Sym}
use Rattle.machine_text.specs.declared.table.Entry.{Entry}
use Rattle.law_turing.specs.Terms.{Machine, IsMachine, Extends}
use Rattle.law_tree.specs.Tree.{filled, empty_machine, IsUsed, InOrder, leads_to, has_entry, is_target, is_used, used_count}
use Rattle.law_tree.specs.Tree.IsUsed.{Start, Source, Target}
use Rattle.law_tree.proofs.Filling.{filled_cases, filled_at, filled_extends}
use Rattle.machine_text.specs.declared.table.Sym.TheVariants.{Zero, One}

-- Used states and machines in order: what a filled pair adds, the tests, and the number of used states.

-- A is used, so there is a used state
pub some_used : (u : ℕ) (m : Machine) → InOrder u m → 0 < u
some_used u m o = o.only 0 (Start refl)

-- the number of used states is one number
pub one_used : (u v : ℕ) (m : Machine) → InOrder u m → InOrder v m → u ≡ v
one_used u v m o p = elim (cases_order u v) [
  | inl same ↦ same
  | inr (inl less) ↦ let over = o.only u (p.each u less) in absurd (omega arith)
  | inr (inr more) ↦ let over = p.only v (o.each v more) in absurd (omega arith)
]

-- what m uses, an extension uses
pub used_extends : (big m : Machine) (q : ℕ) → Extends big m → IsUsed m q → IsUsed big q
used_extends big m q x (Start e) = Start e
used_extends big m q x (Source s e is) = Source s e (x.is q s e is)
used_extends big m q x (Target p s e is to) = Target p s e (x.is p s e is) to

-- a used state of a machine of n states is one of them
pub used_within : (n : ℕ) (m : Machine) (q : ℕ) → IsMachine n m → IsUsed m q → q < n
used_within n m q i (Start e) = omega (arith, i.some)
used_within n m q i (Source s e is) = elim (cases_lt q n) [
  | inl lt ↦ lt
  | inr ge ↦ let none = i.beyond q s ge in absurd (cc)
]
used_within n m q i (Target p s e is to) = rw (← to) (i.inside p s e is)

-- so there are at most n used states
pub used_bound : (n u : ℕ) (m : Machine) → IsMachine n m → InOrder u m → u ≤ n
used_bound n u m i o = elim (cases_lt n u) [
  | inl lt ↦ let within = used_within n m n i (o.each n lt) in absurd (omega arith)
  | inr ge ↦ ge
]

-- the empty machine uses A alone
pub empty_in_order : InOrder 1 empty_machine
empty_in_order = record { only = only; each = λ q lt. Start (omega arith) }
  where
    only : (q : ℕ) → IsUsed empty_machine q → q < 1
    only q (Start e) = omega arith
    only q (Source s e is) = absurd (cc)
    only q (Target p s e is to) = absurd (cc)

-- a filled pair at a used state, to a used state or the first unused one, keeps the order
pub filled_in_order : (u : ℕ) (m : Machine) (p : ℕ) (r : Sym) (e : Entry) → InOrder u m → p < u → m p r ≡ None → e.next.0 ≤ u → InOrder (max u (e.next.0 + 1)) (filled m p r e)
filled_in_order u m p r e o state none target = record { only = only; each = each }
  where
    only : (q : ℕ) → IsUsed (filled m p r e) q → q < max u (e.next.0 + 1)
    only q (Start h) = omega (arith, some_used u m o)
    only q (Source s d is) = elim (filled_cases m p r e q s) [
      | inl f ↦ omega (arith, f.state)
      | inr k ↦ omega (arith, o.only q (Source s d (sym k.is ∙ is)))
    ]
    only q (Target x s d is to) = elim (filled_cases m p r e x s) [
      | inl f ↦ let same : e ≡ d = same_Some e d (sym f.is ∙ is) in omega (arith, ap (λ (y : Entry). y.next.0) same)
      | inr k ↦ omega (arith, o.only q (Target x s d (sym k.is ∙ is) to))
    ]

    each : (q : ℕ) → q < max u (e.next.0 + 1) → IsUsed (filled m p r e) q
    each q lt = elim (cases_lt q u) [
      | inl less ↦ used_extends (filled m p r e) m q (filled_extends m p r e none) (o.each q less)
      | inr ge ↦ Target p r e (filled_at m p r e) (omega arith)
    ]

-- The test of a used state, and how many states pass it.

-- an entry leads to the state that it names
leads : (o : Option Entry) (q : ℕ) → leads_to o q ≡ true → (e : Entry) × (o ≡ Some e) × (e.next.0 ≡ q)
leads None q h = absurd (false≢true h)
leads (Some e) q h = (e, refl, eqb-true e.next.0 q h)

leads_by : (o : Option Entry) (q : ℕ) (e : Entry) → o ≡ Some e → e.next.0 ≡ q → leads_to o q ≡ true
leads_by o q e is to = rw is (eq-eqb e.next.0 q to)

-- a state passes where it is the target of an entry of the first n states
target_found : (n : ℕ) (m : Machine) (q : ℕ) → is_target n m q ≡ true → (p : ℕ) × (s : Sym) × (e : Entry) × (m p s ≡ Some e) × (e.next.0 ≡ q)
unfolding is_target
target_found zero m q h = absurd (false≢true h)
target_found (suc n) m q h = elim (or_cases (leads_to (m n Zero) q || leads_to (m n One) q) (is_target n m q) h) [
  | inl here ↦ elim (or_cases (leads_to (m n Zero) q) (leads_to (m n One) q) here) [
    | inl zeros ↦ let l = leads (m n Zero) q zeros in (n, Zero, l.0, l.1, l.2)
    | inr ones ↦ let l = leads (m n One) q ones in (n, One, l.0, l.1, l.2)
  ]
  | inr below ↦ target_found n m q below
]

found_target : (n : ℕ) (m : Machine) (p : ℕ) (s : Sym) (e : Entry) → p < n → m p s ≡ Some e → is_target n m e.next.0 ≡ true
unfolding is_target
found_target zero m p s e lt is = absurd (omega arith)
found_target (suc n) m p s e lt is = elim (cases_eq p n) [
  | inl same ↦ or_left (leads_to (m n Zero) e.next.0 || leads_to (m n One) e.next.0) (is_target n m e.next.0) (here s (rw (← same) is))
  | inr other ↦ or_right (leads_to (m n Zero) e.next.0 || leads_to (m n One) e.next.0) (is_target n m e.next.0) (found_target n m p s e (omega arith) is)
]
  where
    here : (s : Sym) → m n s ≡ Some e → (leads_to (m n Zero) e.next.0 || leads_to (m n One) e.next.0) ≡ true
    here Zero is = or_left (leads_to (m n Zero) e.next.0) (leads_to (m n One) e.next.0) (leads_by (m n Zero) e.next.0 e is refl)
    here One is = or_right (leads_to (m n Zero) e.next.0) (leads_to (m n One) e.next.0) (leads_by (m n One) e.next.0 e is refl)

-- a state passes where it has an entry
entry_found : (o : Option Entry) → is_some o ≡ true → (e : Entry) × (o ≡ Some e)
entry_found None h = absurd (false≢true h)
entry_found (Some e) h = (e, refl)

found_entry : (m : Machine) (q : ℕ) (s : Sym) (e : Entry) → m q s ≡ Some e → has_entry m q ≡ true
found_entry m q Zero e is = or_left (is_some (m q Zero)) (is_some (m q One)) (ap is_some is)
found_entry m q One e is = or_right (is_some (m q Zero)) (is_some (m q One)) (ap is_some is)

-- what passes the test is used
pub used_from_test : (n : ℕ) (m : Machine) (q : ℕ) → is_used n m q ≡ true → IsUsed m q
unfolding is_used
used_from_test n m q h = elim (or_cases (q == 0) (has_entry m q || is_target n m q) h) [
  | inl start ↦ Start (eqb-true q 0 start)
  | inr other ↦ elim (or_cases (has_entry m q) (is_target n m q) other) [
    | inl has ↦ elim (or_cases (is_some (m q Zero)) (is_some (m q One)) has) [
      | inl zeros ↦ let f = entry_found (m q Zero) zeros in Source Zero f.0 f.1
      | inr ones ↦ let f = entry_found (m q One) ones in Source One f.0 f.1
    ]
    | inr to ↦ let f = target_found n m q to in Target f.0 f.1 f.2 f.3 f.4
  ]
]

-- and what is used passes it
pub test_from_used : (n : ℕ) (m : Machine) (q : ℕ) → IsMachine n m → IsUsed m q → is_used n m q ≡ true
unfolding is_used
test_from_used n m q i (Start h) = or_left (q == 0) (has_entry m q || is_target n m q) (eq-eqb q 0 h)
test_from_used n m q i (Source s e is) =
    or_right (q == 0) (has_entry m q || is_target n m q) (or_left (has_entry m q) (is_target n m q) (found_entry m q s e is))
test_from_used n m q i (Target p s e is to) =
    let within = used_within n m p i (Source s e is) in
    let found : is_target n m q ≡ true = subst (λ (x : ℕ). is_target n m x ≡ true) to (found_target n m p s e within is) in
    or_right (q == 0) (has_entry m q || is_target n m q) (or_right (has_entry m q) (is_target n m q) found)

-- in order: the test is that of the first u numbers
pub order_test : (n u : ℕ) (m : Machine) → IsMachine n m → InOrder u m → (q : ℕ) → is_used n m q ≡ ltb q u
order_test n u m i o q = elim (cases_lt q u) [
  | inl less ↦ test_from_used n m q i (o.each q less) ∙ sym (lt-ltb q u less)
  | inr ge ↦ false_from_ne_true (is_used n m q) (λ t. let over = o.only q (used_from_test n m q t) in absurd (omega arith)) ∙ sym (le-ltb q u ge)
]

pub order_from_test : (n u : ℕ) (m : Machine) → IsMachine n m → u ≤ n → ((q : ℕ) → q < n → is_used n m q ≡ ltb q u) → InOrder u m
order_from_test n u m i le same = record {
  only = λ q used. ltb-true q u (sym (same q (used_within n m q i used)) ∙ test_from_used n m q i used);
  each = λ q lt. used_from_test n m q (same q (omega arith) ∙ lt-ltb q u lt);
}

-- how many of the numbers from a on pass, where those below u do
count_below : (p : ℕ → Bool) (u a n : ℕ) → ((q : ℕ) → q < a + n → p q ≡ ltb q u) → count_by p (range_with_len a n) ≡ min (a + n) u - a
count_below p u a zero same = omega arith
count_below p u a (suc n) same =
    let f : ℕ → ℕ = λ x. cond (p x) 1 0 in
    let first : f a ≡ cond (ltb a u) 1 0 = ap (λ b. cond b 1 0) (same a (omega arith)) in
    let cons = sum_by-cons f a (range_with_len (a + 1) n) in
    let rest = count_below p u (a + 1) n (λ q lt. same q (omega arith)) in
    elim (cases_lt a u) [
      | inl less ↦ let one : f a ≡ 1 = first ∙ ap (λ b. cond b 1 0) (lt-ltb a u less) in omega arith
      | inr ge ↦ let none : f a ≡ 0 = first ∙ ap (λ b. cond b 1 0) (le-ltb a u ge) in omega arith
    ]

-- in a machine in order, u states are used
pub used_number : (n u : ℕ) (m : Machine) → IsMachine n m → InOrder u m → used_count n m ≡ u
unfolding used_count
used_number n u m i o =
    let count = count_below (is_used n m) u 0 n (λ q _. order_test n u m i o q) in
    omega (arith, used_bound n u m i o)
