-- The chains of a table's pairs, and the numbers of paths while they are counted.
use Rattle.std.proofs.Common.{◌≡◌, ℕ, ◌+◌, ◌*◌, ◌<◌, ◌≤◌, List, length, get_or, set, Option, Some, None, inl, inr, sym, subst, ◌∙◌, ap, arith, get_or-set_other, get_or-set_same, zero, suc, ◌/◌, ◌%◌, [], ◌∷◌, refl, ◌-◌, ◌==◌, false, length-set}
use Rattle.std.proofs.lemmas.Bool.{cases_eq, ne_eqb}
use Rattle.std.specs.List.{filter_map, flat_map, sum_by, cons_option}
use Rattle.std.proofs.lemmas.List.Elements.{filter_map-append}
use Rattle.std.proofs.lemmas.List.Sums.{sum_by-append, sum_by-cons}
use Rattle.std.proofs.lemmas.List.{set-set, set-get_or}
use Rattle.machine_text.specs.Terms.{state_limit, Packed, entry_of, symbol_of}
use Rattle.machine_text.specs.declared.table.Sym.{Sym}
use Rattle.machine_text.specs.declared.table.Entry.{Entry}
use Rattle.backward.specs.inside.{pair_at, next_of, target_at, IsFirst, AreChains, paths_beyond, known_about, CountsOn, Exceeds}
use Rattle.machine_text.specs.declared.table.Sym.TheVariants.{Zero, One}
use Rattle.law_turing.specs.Terms.{Machine, Pair, Partial, all_pairs, known_before, level}
use Rattle.backward.specs.Limits.{path_limit}
use Rattle.law_turing.proofs.BackwardLaws.{same_pair}

-- The chains of a table's pairs, made from the last place on.
some_is : (a b : ℕ) → ◌≡◌ {A = Option ℕ} (Some a) (Some b) → a ≡ b
some_is a b e = cc

-- where the pair at a place leads, by its parts
pub target_by : (p : Packed) (place q : ℕ) (s : Sym) (o : Option Entry) → q ≡ (pair_at place).state → s ≡ (pair_at place).symbol → o ≡ entry_of p q s → target_at p place ≡ next_of o
unfolding target_at
target_by p place q s o state symbol is = ap next_of (sym (is ∙ ap (λ r. entry_of p r s) state ∙ ap (entry_of p (pair_at place).state) symbol))

module _ (p : Packed) where
  -- one place more, which leads elsewhere
  is_first_later : (place q at : ℕ) → (target_at p place ≡ Some q → ⊥) → IsFirst p (place + 1) q at → IsFirst p place q at
  is_first_later place q at elsewhere behind = record {
    low = omega (arith, behind.low);
    high = behind.high;
    passed = λ i low high target. elim (cases_eq i place) [
      | inl here ↦ elsewhere (subst (λ (j : ℕ). target_at p j ≡ Some q) here target)
      | inr other ↦ behind.passed i (omega arith) high target
    ];
    leads = behind.leads;
  }

  pub chains_passed : (place : ℕ) (first next : List ℕ) → target_at p place ≡ None → AreChains p (place + 1) first next → AreChains p place first next
  chains_passed place first next none chains = record {
    begins = λ q below. is_first_later place q (get_or first q 0) (λ target. let e : ◌≡◌ {A = Option ℕ} None (Some q) = sym none ∙ target in cc) (chains.begins q below);
    goes_on = λ i q low high target. elim (cases_eq i place) [
      | inl here ↦ absurd (let e : ◌≡◌ {A = Option ℕ} None (Some q) = sym none ∙ subst (λ (j : ℕ). target_at p j ≡ Some q) here target in cc)
      | inr other ↦ chains.goes_on i q (omega arith) high target
    ];
  }

  -- one place more, put before those of its chain
  pub chains_more : (place state : ℕ) (first next : List ℕ) → target_at p place ≡ Some state → place < 2 * p.states → state < state_limit →
      length first ≡ state_limit → 2 * p.states ≤ length next → AreChains p (place + 1) first next → AreChains p place (set first state place) (set next place (get_or first state 0))
  chains_more place state first next leads within below firsts nexts chains = record {
    begins = λ q small. elim (cases_eq q state) [
      | inl here ↦ rw here (rw (get_or-set_same first state place 0 (omega arith)) (record {
        low = omega arith;
        high = omega arith;
        passed = λ i low high target. omega arith;
        leads = λ _. leads;
      }))
      | inr other ↦ rw (get_or-set_other first state q place 0 other)
          (is_first_later place q (get_or first q 0) (λ target. other (sym (some_is state q (sym leads ∙ target)))) (chains.begins q small))
    ];
    goes_on = λ i q low high target. elim (cases_eq i place) [
      | inl here ↦
          let same : state ≡ q = some_is state q (sym leads ∙ subst (λ (j : ℕ). target_at p j ≡ Some q) here target) in
          rw here (rw (get_or-set_same next place (get_or first state 0) 0 (omega arith)) (rw (← same) (chains.begins state below)))
      | inr other ↦ rw (get_or-set_other next place i (get_or first state 0) 0 other) (chains.goes_on i q (omega arith) high target)
    ];
  }

-- Sums over the pairs, place by place.

-- the sum of f at the first numbers
pub sum_first : (ℕ → ℕ) → ℕ → ℕ
sum_first f zero = 0
sum_first f (suc i) = sum_first f i + f i

pub sum_first-zero : (f : ℕ → ℕ) → sum_first f 0 ≡ 0
unfolding sum_first
sum_first-zero f = refl

pub sum_first-more : (f : ℕ → ℕ) (i : ℕ) → sum_first f (suc i) ≡ sum_first f i + f i
unfolding sum_first
sum_first-more f i = refl

-- of more numbers it is no less
pub sum_first-le : (f : ℕ → ℕ) (i more : ℕ) → sum_first f i ≤ sum_first f (i + more)
sum_first-le f i zero = let e : i ≡ i + 0 = omega arith in let s = ap (sum_first f) e in omega arith
sum_first-le f i (suc more) =
    let e : i + suc more ≡ suc (i + more) = omega arith in
    let s : sum_first f (i + suc more) ≡ sum_first f (i + more) + f (i + more) = ap (sum_first f) e ∙ sum_first-more f (i + more) in
    omega (arith, sum_first-le f i more)

-- f of what there may be, or 0
pub if_known : {X : Type 0} → (X → ℕ) → Option X → ℕ
if_known f None = 0
if_known f (Some x) = f x

pub if_known-none : {X : Type 0} (f : X → ℕ) (o : Option X) → o ≡ None → if_known f o ≡ 0
unfolding if_known
if_known-none f o none = ap (if_known f) none

pub if_known-some : {X : Type 0} (f : X → ℕ) (o : Option X) (x : X) → o ≡ Some x → if_known f o ≡ f x
unfolding if_known
if_known-some f o x some = ap (if_known f) some

sum_cons : {X : Type 0} (f : X → ℕ) (o : Option X) (xs : List X) → sum_by f (cons_option o xs) ≡ if_known f o + sum_by f xs
unfolding if_known
sum_cons f None xs = omega arith
sum_cons f (Some x) xs = sum_by-cons f x xs

-- the pairs of the state after the first n
pair_even : (n : ℕ) → pair_at (2 * n) ≡ record { state = n; symbol = Zero }
pair_even n = let half : (2 * n) / 2 ≡ n = omega arith in let rest : (2 * n) % 2 ≡ 0 = omega arith in
    ap (λ q. let p : Pair = record { state = q; symbol = symbol_of ((2 * n) % 2) } in p) half ∙ ap (λ r. let p : Pair = record { state = n; symbol = symbol_of r } in p) rest

pair_odd : (n : ℕ) → pair_at (suc (2 * n)) ≡ record { state = n; symbol = One }
pair_odd n = let half : (suc (2 * n)) / 2 ≡ n = omega arith in let rest : (suc (2 * n)) % 2 ≡ 1 = omega arith in
    ap (λ q. let p : Pair = record { state = q; symbol = symbol_of ((suc (2 * n)) % 2) } in p) half ∙ ap (λ r. let p : Pair = record { state = n; symbol = symbol_of r } in p) rest

-- a sum over what the pairs give is one over their places
pub sum_of_pairs : {X : Type 0} (f : X → ℕ) (g : Pair → Option X) (n : ℕ) → sum_by f (filter_map g (all_pairs n)) ≡ sum_first (λ i. if_known f (g (pair_at i))) (2 * n)
unfolding all_pairs sum_first
sum_of_pairs f g zero = refl
sum_of_pairs f g (suc n) =
    let a : Pair = record { state = n; symbol = Zero } in
    let b : Pair = record { state = n; symbol = One } in
    let last : sum_by f (filter_map g (a ∷ b ∷ [])) ≡ if_known f (g a) + if_known f (g b) =
    sum_cons f (g a) (cons_option (g b) []) ∙ ap (λ x. if_known f (g a) + x) (sum_cons f (g b) [] ∙ (let z : if_known f (g b) + 0 ≡ if_known f (g b) = omega arith in z)) in
    let even : if_known f (g (pair_at (2 * n))) ≡ if_known f (g a) = ap (λ p. if_known f (g p)) (pair_even n) in
    let odd : if_known f (g (pair_at (suc (2 * n)))) ≡ if_known f (g b) = ap (λ p. if_known f (g p)) (pair_odd n) in
    let whole = ap (sum_by f) (filter_map-append g (all_pairs n) (a ∷ b ∷ [])) ∙ sum_by-append f (filter_map g (all_pairs n)) (filter_map g (a ∷ b ∷ [])) in
    let size : 2 * suc n ≡ suc (suc (2 * n)) = omega arith in
    let sums = ap (sum_first (λ i. if_known f (g (pair_at i)))) size in
    let before = sum_of_pairs f g n in
    whole ∙ (let e : sum_by f (filter_map g (all_pairs n)) + sum_by f (filter_map g (a ∷ b ∷ [])) ≡ (sum_first (λ i. if_known f (g (pair_at i))) (2 * n) + if_known f (g (pair_at (2 * n)))) + if_known f (g (pair_at (suc (2 * n)))) = omega arith in e) ∙ sym sums

-- the paths that go further back than those of a depth, altogether, are those of a deeper one
sum_flat : {X Y : Type 0} (f : Y → ℕ) (g : X → List Y) (xs : List X) → sum_by (λ x. sum_by f (g x)) xs ≡ sum_by f (flat_map g xs)
sum_flat f g [] = refl
sum_flat f g (x ∷ xs) = sum_by-cons (λ y. sum_by f (g y)) x xs ∙ ap (λ s. sum_by f (g x) + s) (sum_flat f g xs) ∙ sym (sum_by-append f (g x) (flat_map g xs))

sum_ones : (X : Type 0) (xs : List X) → sum_by (λ (x : X). 1) xs ≡ length xs
sum_ones X [] = refl
sum_ones X (x ∷ xs) = let e = sum_ones X xs in let c = sum_by-cons (λ (y : X). 1) x xs in omega arith

pub paths_of_level : (n : ℕ) (m : Machine) (j k : ℕ) → sum_by (paths_beyond n m k) (level n m j) ≡ length (level n m (j + k))
unfolding level paths_beyond
paths_of_level n m j zero = sum_ones Partial (level n m j) ∙ ap (λ i. length (level n m i)) (let e : j ≡ j + 0 = omega arith in e)
paths_of_level n m j (suc k) =
    sum_flat (paths_beyond n m k) (λ later. filter_map (λ p. known_before later p (m p.state p.symbol)) (all_pairs n)) (level n m j)
    ∙ paths_of_level n m (suc j) k
    ∙ ap (λ i. length (level n m i)) (let e : suc j + k ≡ j + suc k = omega arith in e)

-- The numbers of paths while they are counted.

-- an entry that leads to another state
leads_not : (needs : Partial) (q : Pair) (o : Option Entry) → (next_of o ≡ Some needs.state → ⊥) → known_before needs q o ≡ None
leads_not needs q None other = refl
leads_not needs q (Some e) other =
    let no : (needs.state == e.next.0) ≡ false = ne_eqb needs.state e.next.0 (λ same. other (ap Some (sym same))) in
    rw no refl

-- what is known before a pair, by its place
abbrev pub before_place : Packed → Partial → ℕ → Option Partial
before_place p needs place = known_before needs (pair_at place) (entry_of p (pair_at place).state (pair_at place).symbol)

-- how many paths go so many further back than one before the pair at a place
abbrev pub by_place : Packed → ℕ → Partial → ℕ → ℕ
by_place p k needs place = if_known (paths_beyond p.states (entry_of p) k) (before_place p needs place)

-- after the pairs at the first places were gone through
pub record CountsPart (p : Packed) (depth : ℕ) (needs : Partial) (places : ℕ) (old new : List ℕ) : Type 0 where
  pub size : length new ≡ length old
  pub from : (k : ℕ) → depth + suc k < length old → get_or new (depth + suc k) 0 ≡ get_or old (depth + suc k) 0 + sum_first (by_place p k needs) places
  pub nearer : (k : ℕ) → k ≤ depth → get_or new k 0 ≡ get_or old k 0
  pub narrow : (k : ℕ) → get_or old k 0 ≤ path_limit → get_or new k 0 ≤ path_limit

pub part_none : (p : Packed) (depth : ℕ) (needs : Partial) (old : List ℕ) → CountsPart p depth needs 0 old old
part_none p depth needs old = record {
  size = refl;
  from = λ k within. let z = sum_first-zero (by_place p k needs) in omega arith;
  nearer = λ k near. refl;
  narrow = λ k small. small;
}

-- at the last depth there is nothing to go through
pub part_last : (p : Packed) (depth : ℕ) (needs : Partial) (places : ℕ) (old : List ℕ) → depth + 1 ≡ length old → CountsPart p depth needs places old old
part_last p depth needs places old last = record {
  size = refl;
  from = λ k within. absurd (omega arith);
  nearer = λ k near. refl;
  narrow = λ k small. small;
}

-- a pair that can't come before
pub part_passed : (p : Packed) (depth : ℕ) (needs : Partial) (places : ℕ) (old new : List ℕ) → before_place p needs places ≡ None → CountsPart p depth needs places old new → CountsPart p depth needs (places + 1) old new
part_passed p depth needs places old new none part = record {
  size = part.size;
  from = λ k within.
      let e : places + 1 ≡ suc places = omega arith in
      let sums : sum_first (by_place p k needs) (places + 1) ≡ sum_first (by_place p k needs) places + by_place p k needs places = ap (sum_first (by_place p k needs)) e ∙ sum_first-more (by_place p k needs) places in
      let z = if_known-none (paths_beyond p.states (entry_of p) k) (before_place p needs places) none in
      let old_is = part.from k within in
      omega arith;
  nearer = part.nearer;
  narrow = part.narrow;
}

-- pairs that lead elsewhere
elsewhere : (p : Packed) (needs : Partial) (place : ℕ) → (target_at p place ≡ Some needs.state → ⊥) → before_place p needs place ≡ None
unfolding target_at
elsewhere p needs place other = leads_not needs (pair_at place) (entry_of p (pair_at place).state (pair_at place).symbol) other

pub part_further : (p : Packed) (depth : ℕ) (needs : Partial) (places more : ℕ) (old new : List ℕ) → ((i : ℕ) → places ≤ i → i < places + more → target_at p i ≡ Some needs.state → ⊥) →
    CountsPart p depth needs places old new → CountsPart p depth needs (places + more) old new
part_further p depth needs places zero old new other part = subst (λ (i : ℕ). CountsPart p depth needs i old new) (let e : places ≡ places + 0 = omega arith in e) part
part_further p depth needs places (suc more) old new other part =
    let e : (places + more) + 1 ≡ places + suc more = omega arith in
    subst (λ (i : ℕ). CountsPart p depth needs i old new) e
    (part_passed p depth needs (places + more) old new (elsewhere p needs (places + more) (other (places + more) (omega arith) (omega arith)))
    (part_further p depth needs places more old new (λ i low high. other i low (omega arith)) part))

-- as far as the first pair that leads here
pub part_first : (p : Packed) (depth : ℕ) (cells : List (Option Sym)) (state head places at : ℕ) (old new : List ℕ) → IsFirst p places state at →
    CountsPart p depth (known_about cells state head) places old new → CountsPart p depth (known_about cells state head) at old new
unfolding known_about
part_first p depth cells state head places at old new first part =
    let far : places + (at - places) ≡ at = omega (arith, first.low) in
    subst (λ (i : ℕ). CountsPart p depth (known_about cells state head) i old new) far
    (part_further p depth (known_about cells state head) places (at - places) old new (λ i low high. first.passed i low (omega arith)) part)

-- a pair that comes before, with the paths that go further back
pub part_more : (p : Packed) (depth : ℕ) (needs earlier : Partial) (places : ℕ) (old new newer : List ℕ) → before_place p needs places ≡ Some earlier → CountsPart p depth needs places old new →
    length newer ≡ length new → CountsOn p (depth + 1) earlier new newer → CountsPart p depth needs (places + 1) old newer
part_more p depth needs earlier places old new newer some part size on = record {
  size = size ∙ part.size;
  from = λ k within.
      let e : places + 1 ≡ suc places = omega arith in
      let sums : sum_first (by_place p k needs) (places + 1) ≡ sum_first (by_place p k needs) places + by_place p k needs places = ap (sum_first (by_place p k needs)) e ∙ sum_first-more (by_place p k needs) places in
      let known = if_known-some (paths_beyond p.states (entry_of p) k) (before_place p needs places) earlier some in
      let at : (depth + 1) + k ≡ depth + suc k = omega arith in
      let new_at = ap (λ i. get_or new i 0) at in
      let newer_at = ap (λ i. get_or newer i 0) at in
      let small = part.size in
      let old_is = part.from k within in
      let new_is = on.from k (omega arith) in
      omega arith;
  nearer = λ k near. on.nearer k (omega arith) ∙ part.nearer k near;
  narrow = λ k small. on.narrow k (part.narrow k small);
}

-- the sum over all places is the number of paths that go one further back
all_places : (p : Packed) (k : ℕ) (needs : Partial) → sum_first (by_place p k needs) (2 * p.states) ≡ paths_beyond p.states (entry_of p) (suc k) needs
unfolding paths_beyond
all_places p k needs = sym (sum_of_pairs (paths_beyond p.states (entry_of p) k) (λ q. known_before needs q (entry_of p q.state q.symbol)) p.states)

only_one : (p : Packed) (needs : Partial) → paths_beyond p.states (entry_of p) 0 needs ≡ 1
unfolding paths_beyond
only_one p needs = refl

-- after all the pairs, with the path itself counted first
pub part_all : (p : Packed) (depth : ℕ) (needs : Partial) (places : ℕ) (old new : List ℕ) → places ≡ 2 * p.states → depth < length old → get_or old depth 0 < path_limit →
    CountsPart p depth needs places (set old depth (get_or old depth 0 + 1)) new → CountsOn p depth needs old new
part_all p depth needs places old new all_gone within room part =
    let size = length-set old depth (get_or old depth 0 + 1) in
    let here = get_or-set_same old depth (get_or old depth 0 + 1) 0 within in
    record {
      from = λ k inside. at k inside;
      nearer = λ k near. part.nearer k (omega arith) ∙ get_or-set_other old depth k (get_or old depth 0 + 1) 0 (λ e. omega arith);
      narrow = λ k small. part.narrow k (small_after k small);
    }
  where
    first : List ℕ
    first = set old depth (get_or old depth 0 + 1)

    at : (k : ℕ) → depth + k < length old → get_or new (depth + k) 0 ≡ get_or old (depth + k) 0 + paths_beyond p.states (entry_of p) k needs
    at zero inside =
        let e : depth + 0 ≡ depth = omega arith in
        let a = ap (λ i. get_or new i 0) e in
        let b = ap (λ i. get_or old i 0) e in
        let c = part.nearer depth (omega arith) in
        let d = get_or-set_same old depth (get_or old depth 0 + 1) 0 within in
        let one = only_one p needs in
        omega arith
    at (suc k) inside =
        let size = length-set old depth (get_or old depth 0 + 1) in
        let a = part.from k (omega arith) in
        let b = get_or-set_other old depth (depth + suc k) (get_or old depth 0 + 1) 0 (λ e. omega arith) in
        let c = ap (sum_first (by_place p k needs)) all_gone ∙ all_places p k needs in
        omega arith

    small_after : (k : ℕ) → get_or old k 0 ≤ path_limit → get_or (set old depth (get_or old depth 0 + 1)) k 0 ≤ path_limit
    small_after k small =
        elim (cases_eq k depth) [
          | inl e ↦ let same = ap (λ i. get_or (set old depth (get_or old depth 0 + 1)) i 0) e in
              let here = get_or-set_same old depth (get_or old depth 0 + 1) 0 within in
              omega arith
          | inr other ↦ let as_was = get_or-set_other old depth k (get_or old depth 0 + 1) 0 (λ e. omega arith) in omega arith
        ]

-- a depth that is full
pub exceeds_here : (p : Packed) (depth : ℕ) (needs : Partial) (old : List ℕ) → depth < length old → path_limit ≤ get_or old depth 0 → Exceeds p depth needs old
exceeds_here p depth needs old within full = record {
  further = 0;
  within = omega arith;
  more =
      let e : depth + 0 ≡ depth = omega arith in
      let a = ap (λ i. get_or old i 0) e in
      let one = only_one p needs in
      omega arith;
}

-- a depth that the paths before one of the pairs make too wide
pub exceeds_further : (p : Packed) (depth : ℕ) (needs earlier : Partial) (places : ℕ) (old new : List ℕ) → before_place p needs places ≡ Some earlier → places < 2 * p.states →
    CountsPart p depth needs places (set old depth (get_or old depth 0 + 1)) new → Exceeds p (depth + 1) earlier new → Exceeds p depth needs old
exceeds_further p depth needs earlier places old new some place part over =
    let k = over.further in
    let size = length-set old depth (get_or old depth 0 + 1) in
    let new_size = part.size in
    let inside = over.within in
    record {
      further = suc k;
      within = omega arith;
      more =
          let old_is = part.from k (omega arith) in
          let b = get_or-set_other old depth (depth + suc k) (get_or old depth 0 + 1) 0 (λ e. omega arith) in
          let at : (depth + 1) + k ≡ depth + suc k = omega arith in
          let new_at = ap (λ i. get_or new i 0) at in
          let known = if_known-some (paths_beyond p.states (entry_of p) k) (before_place p needs places) earlier some in
          let sums = sum_first-more (by_place p k needs) places in
          let rest : suc places + (2 * p.states - suc places) ≡ 2 * p.states = omega arith in
          let up = sum_first-le (by_place p k needs) (suc places) (2 * p.states - suc places) in
          let whole = ap (sum_first (by_place p k needs)) rest in
          let all = all_places p k needs in
          let more = over.more in
          omega arith;
    }

-- what can come before the cells about a head, by the parts of the pair
pub at_place : (p t : Packed) (cells now : List (Option Sym)) (state head place q : ℕ) (s : Sym) (o : Option Partial) → t ≡ p → now ≡ cells → q ≡ (pair_at place).state → s ≡ (pair_at place).symbol →
    known_before (known_about now state head) (record { state = q; symbol = s }) (entry_of t q s) ≡ o → before_place p (known_about cells state head) place ≡ o
at_place p t cells now state head place q s o table same in_state on_symbol is =
    ap (λ known. before_place p (known_about known state head) place) (sym same)
    ∙ ap (λ (r : Pair). known_before (known_about now state head) r (entry_of p r.state r.symbol)) (sym (same_pair (record { state = q; symbol = s }) (pair_at place) in_state on_symbol))
    ∙ ap (λ (r : Packed). known_before (known_about now state head) (record { state = q; symbol = s }) (entry_of r q s)) (sym table)
    ∙ is

-- the cells after one was known anew and then was as before
pub cells_again : (cells now later : List (Option Sym)) (i : ℕ) (o : Option Sym) → now ≡ cells → later ≡ set now i o → set later i (get_or now i None) ≡ cells
cells_again cells now later i o same later_is =
    ap (λ known. set known i (get_or now i None)) later_is ∙ set-set now i o (get_or now i None) ∙ set-get_or now i None ∙ same
