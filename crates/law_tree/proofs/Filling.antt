-- Once a pair is filled, a machine does the new entry there and has one hole fewer.
use Rattle.std.proofs.Common.{◌≡◌, ℕ, ◌<◌, ◌≤◌, Option, Some, None, refl, sym, ◌∙◌, ◌⊎◌, inl, inr, arith, suc, zero, ◌+◌, ◌*◌, ap, subst}
use Rattle.std.proofs.lemmas.Option.{same_Some}
use Rattle.std.proofs.lemmas.Bool.{cases_eq, cases_lt}
use Rattle.machine_text.specs.declared.table.Sym.{Sym}
use Rattle.machine_text.specs.declared.table.Entry.{Entry}
pub use Rattle.machine_text.proofs.Tables.{cases_symbol, Filled, Kept, filled_cases}
use Rattle.law_turing.specs.Terms.{Machine, IsMachine, Extends}
use Rattle.law_tree.specs.Tree.{filled, empty_machine, IsEmpty}
use Rattle.machine_text.specs.declared.table.Sym.TheVariants.{Zero, One}
use Rattle.machine_text.specs.Terms.{hole, holes}

-- One pair filled: what the machine then does at each pair, and what extends what.

-- an option is there or not
pub cases_option : {A : Type 0} (o : Option A) → (o ≡ None) ⊎ ((x : A) × (o ≡ Some x))
cases_option None = inl refl
cases_option (Some x) = inr (x, refl)

-- the pair has the entry
pub filled_at : (m : Machine) (p : ℕ) (r : Sym) (e : Entry) → filled m p r e p r ≡ Some e
filled_at m p r e = elim (filled_cases m p r e p r) [
  | inl f ↦ f.is
  | inr k ↦ absurd (k.other refl refl)
]

-- where the pair was undefined, the filled machine extends the one before
pub filled_extends : (m : Machine) (p : ℕ) (r : Sym) (e : Entry) → m p r ≡ None → Extends (filled m p r e) m
filled_extends m p r e undefined = record { is = go }
  where
    go : (q : ℕ) (s : Sym) (d : Entry) → m q s ≡ Some d → filled m p r e q s ≡ Some d
    go q s d h = elim (filled_cases m p r e q s) [
      | inl f ↦ let gone : m q s ≡ None = rw (f.state, f.symbol) undefined in absurd (cc)
      | inr k ↦ k.is ∙ h
    ]

-- an extension that has the entry at the pair extends the filled machine
pub extends_filled : (big m : Machine) (p : ℕ) (r : Sym) (e : Entry) → Extends big m → big p r ≡ Some e → Extends big (filled m p r e)
extends_filled big m p r e ext there = record { is = go }
  where
    go : (q : ℕ) (s : Sym) (d : Entry) → filled m p r e q s ≡ Some d → big q s ≡ Some d
    go q s d h = elim (filled_cases m p r e q s) [
      | inl f ↦ let at : big q s ≡ Some e = rw (f.state, f.symbol) there in at ∙ sym f.is ∙ h
      | inr k ↦ ext.is q s d (sym k.is ∙ h)
    ]

-- an extension of an extension is one
pub extends_twice : (a b c : Machine) → Extends a b → Extends b c → Extends a c
extends_twice a b c f g = record { is = λ q s e h. f.is q s e (g.is q s e h) }

-- each machine extends itself, and the empty one
pub extends_itself : (m : Machine) → Extends m m
extends_itself m = record { is = λ q s e h. h }

pub extends_empty : (m : Machine) → Extends m empty_machine
extends_empty m = record { is = λ q s e h. cc }

-- an entry within the states makes a machine of them
pub filled_machine : (n : ℕ) (m : Machine) (p : ℕ) (r : Sym) (e : Entry) → IsMachine n m → p < n → e.next.0 < n → IsMachine n (filled m p r e)
filled_machine n m p r e is_machine state target = record { some = is_machine.some; beyond = beyond; inside = inside }
  where
    beyond : (q : ℕ) (s : Sym) → n ≤ q → filled m p r e q s ≡ None
    beyond q s h = elim (filled_cases m p r e q s) [
      | inl f ↦ let same = f.state in absurd (omega arith)
      | inr k ↦ k.is ∙ is_machine.beyond q s h
    ]

    inside : (q : ℕ) (s : Sym) (d : Entry) → filled m p r e q s ≡ Some d → d.next.0 < n
    inside q s d h = elim (filled_cases m p r e q s) [
      | inl f ↦ let same : e ≡ d = same_Some e d (sym f.is ∙ h) in rw (← same) target
      | inr k ↦ is_machine.inside q s d (sym k.is ∙ h)
    ]

-- the machine without entries
pub empty_is_machine : (n : ℕ) → 1 ≤ n → IsMachine n empty_machine
empty_is_machine n some = record { some = some; beyond = λ q s h. refl; inside = λ q s e h. cc }

-- equal entries are equal machines
pub same_program : (m t : Machine) → ((q : ℕ) (s : Sym) → m q s ≡ t q s) → m ≡ t
same_program m t each = λ i q s. each q s i

-- How many pairs are undefined: one fewer once a pair is filled, none in a full machine, all in an empty one.

-- what an entry, or none, counts for
hole_small : (o : Option Entry) → hole o ≤ 1
hole_small None = omega arith
hole_small (Some e) = omega arith

hole_one : (o : Option Entry) → 1 ≤ hole o → o ≡ None
hole_one None h = refl
hole_one (Some x) h = absurd (omega arith)

-- the count over one state more
pub holes_more : (n : ℕ) (m : Machine) → holes (suc n) m ≡ hole (m n Zero) + hole (m n One) + holes n m
unfolding holes
holes_more n m = refl

pub holes_none : (m : Machine) → holes 0 m ≡ 0
unfolding holes
holes_none m = refl

-- there are two pairs a state
pub holes_bound : (n : ℕ) (m : Machine) → holes n m ≤ 2 * n
holes_bound zero m = omega (arith, holes_none m)
holes_bound (suc n) m = omega (arith, holes_more n m, holes_bound n m, hole_small (m n Zero), hole_small (m n One))

-- the same entries: the same count
pub holes_same : (n : ℕ) (m t : Machine) → ((q : ℕ) (s : Sym) → q < n → m q s ≡ t q s) → holes n m ≡ holes n t
holes_same zero m t same = holes_none m ∙ sym (holes_none t)
holes_same (suc n) m t same =
    let zeros = ap hole (same n Zero (omega arith)) in
    let ones = ap hole (same n One (omega arith)) in
    let below = holes_same n m t (λ q s h. same q s (omega arith)) in
    omega (arith, holes_more n m, holes_more n t)

-- a pair among the first n that is undefined counts
pub holes_counts : (n : ℕ) (m : Machine) (q : ℕ) (s : Sym) → q < n → m q s ≡ None → 1 ≤ holes n m
holes_counts zero m q s lt e = absurd (omega arith)
holes_counts (suc n) m q s lt e = elim (cases_eq q n) [
  | inl same ↦ here s (rw (← same) e)
  | inr other ↦ omega (arith, holes_more n m, holes_counts n m q s (omega arith) e)
]
  where
    here : (s : Sym) → m n s ≡ None → 1 ≤ holes (suc n) m
    here Zero e = omega (arith, holes_more n m, ap hole e)
    here One e = omega (arith, holes_more n m, ap hole e)

-- no pair undefined: each has an entry
pub none_open : (n : ℕ) (m : Machine) → holes n m ≡ 0 → (q : ℕ) (s : Sym) → q < n → m q s ≡ None → ⊥
none_open n m full q s lt e = omega (arith, holes_counts n m q s lt e)

-- a pair that isn't the filled one stays
pub filled_other : (m : Machine) (p : ℕ) (r : Sym) (e : Entry) (q : ℕ) (s : Sym) → (q ≡ p → s ≡ r → ⊥) → filled m p r e q s ≡ m q s
filled_other m p r e q s other = elim (filled_cases m p r e q s) [
  | inl f ↦ absurd (other f.state f.symbol)
  | inr k ↦ k.is
]

-- states below the filled pair's count as before
holes_below : (n : ℕ) (m : Machine) (p : ℕ) (r : Sym) (e : Entry) → n ≤ p → holes n (filled m p r e) ≡ holes n m
holes_below n m p r e le = holes_same n (filled m p r e) m (λ q s lt. filled_other m p r e q s (λ same _. omega arith))

holes_here : (n : ℕ) (m : Machine) (r : Sym) (e : Entry) → m n r ≡ None → holes (suc n) m ≡ holes (suc n) (filled m n r e) + 1
holes_here n m Zero e none =
    let here = ap hole none in
    let now = ap hole (filled_at m n Zero e) in
    let other = ap hole (filled_other m n Zero e n One (λ _ h. cc)) in
    omega (arith, holes_more n m, holes_more n (filled m n Zero e), holes_below n m n Zero e (omega arith))
holes_here n m One e none =
    let here = ap hole none in
    let now = ap hole (filled_at m n One e) in
    let other = ap hole (filled_other m n One e n Zero (λ _ h. cc)) in
    omega (arith, holes_more n m, holes_more n (filled m n One e), holes_below n m n One e (omega arith))

-- a filled pair counts no more
pub holes_filled : (n : ℕ) (m : Machine) (p : ℕ) (r : Sym) (e : Entry) → p < n → m p r ≡ None → holes n m ≡ holes n (filled m p r e) + 1
holes_filled zero m p r e lt none = absurd (omega arith)
holes_filled (suc n) m p r e lt none = elim (cases_eq p n) [
  | inl same ↦ subst (λ (x : ℕ). holes (suc n) m ≡ holes (suc n) (filled m x r e) + 1) (sym same) (holes_here n m r e (rw same at none))
  | inr other ↦ (
      let zeros = ap hole (filled_other m p r e n Zero (λ h _. other (sym h))) in
      let ones = ap hole (filled_other m p r e n One (λ h _. other (sym h))) in
      omega (arith, holes_more n m, holes_more n (filled m p r e), holes_filled n m p r e (omega arith) none))
]

-- where one pair is undefined, the machine that has it filled is full
pub only_one : (n : ℕ) (m : Machine) (p : ℕ) (r : Sym) (e : Entry) → holes n m ≤ 1 → p < n → m p r ≡ None → holes n (filled m p r e) ≡ 0
only_one n m p r e one lt none = omega (arith, holes_filled n m p r e lt none)

-- in an empty machine each pair counts
pub holes_empty : (n : ℕ) (m : Machine) → IsEmpty m → holes n m ≡ 2 * n
holes_empty zero m empty = holes_none m
holes_empty (suc n) m empty =
    omega (arith, holes_more n m, ap hole (empty.is n Zero), ap hole (empty.is n One), holes_empty n m empty)

-- where each pair counts, each is undefined
holes_all : (n : ℕ) (m : Machine) → holes n m ≡ 2 * n → (q : ℕ) (s : Sym) → q < n → m q s ≡ None
holes_all zero m all q s lt = absurd (omega arith)
holes_all (suc n) m all q s lt = elim (cases_eq q n) [
  | inl same ↦ rw same (here s)
  | inr other ↦ holes_all n m (omega (arith, holes_more n m, holes_bound n m, hole_small (m n Zero), hole_small (m n One))) q s (omega arith)
]
  where
    here : (s : Sym) → m n s ≡ None
    here Zero = hole_one (m n Zero) (omega (arith, holes_more n m, holes_bound n m, hole_small (m n One)))
    here One = hole_one (m n One) (omega (arith, holes_more n m, holes_bound n m, hole_small (m n Zero)))

pub empty_from_holes : (n : ℕ) (m : Machine) → IsMachine n m → holes n m ≡ 2 * n → IsEmpty m
empty_from_holes n m is_machine all = record { is = go }
  where
    go : (q : ℕ) (s : Sym) → m q s ≡ None
    go q s = elim (cases_lt q n) [
      | inl lt ↦ holes_all n m all q s lt
      | inr ge ↦ is_machine.beyond q s ge
    ]

-- a machine is empty or not
pub cases_empty : (n : ℕ) (m : Machine) → IsMachine n m → (IsEmpty m × (holes n m ≡ 2 * n)) ⊎ ((IsEmpty m → ⊥) × (holes n m ≡ 2 * n → ⊥))
cases_empty n m is_machine = elim (cases_eq (holes n m) (2 * n)) [
  | inl all ↦ inl (empty_from_holes n m is_machine all, all)
  | inr some ↦ inr (λ empty. some (holes_empty n m empty), some)
]

-- an empty machine is the one without entries
pub empty_is : (m : Machine) → IsEmpty m → m ≡ empty_machine
empty_is m empty = λ i q s. empty.is q s i
