-- Tables and the machines that they are have the same children, trees and bests.
use Rattle.std.proofs.Common.{◌≡◌, ℕ, ◌<◌, ◌≤◌, Option, Some, None, IfSome, refl, ap, ◌+◌, sym, ◌∙◌, subst, ◌⊎◌, ◌↔◌, inl, inr}
use Prim.Native.Nat.{max}
use Rattle.machine_text.specs.Terms.{state_limit, Packed, IsTable, IsMapOf, entry_of, with_entry, tabulated, empty_table}
use Rattle.machine_text.specs.declared.table.Sym.{Sym}
use Rattle.machine_text.specs.declared.table.Entry.{Entry}
use Rattle.machine_text.proofs.Tables.{entry_of-tabulated, IsTable-tabulated, same_table as one_table, IsTable-with_entry, entry_of-with_entry}
use Rattle.law_turing.specs.Terms.{Machine, IsMachine, Extends, HaltsAt, Never}
use Rattle.law_tree.specs.Tree.{filled, InOrder, IsChild, InTree, IsDecided, IsGreatestInTree, Attains, IsBest, IsChildTable, InTableTree, IsDecidedTable, TableAttains, IsBestOfTable, IsGreatestInTables, Mark, IsTrueMark, IsVerdict, IsClosed, IsComplete, IsGreatestRecorded, empty_machine, IsGreatestOfAll}
use Rattle.law_tree.proofs.Filling.{same_program, empty_is_machine}
use Rattle.law_tree.specs.Tree.InTree.{Root, Below}
use Rattle.law_tree.specs.Tree.InTableTree.{Itself, OfChild}
use Rattle.law_tree.proofs.Extensions.{pair_within, IsWorth}
use Rattle.law_tree.proofs.TreeLaws.{child_in_order, best_is_greatest, one_parent, best_of_empty}
use Rattle.law_turing.proofs.RunLaws.{table_machine, one_count}
use Rattle.law_tree.specs.Tree.Mark.{Halting, NeverHalting, Holdout}
use Rattle.law_tree.proofs.Used.{empty_in_order}

-- Tables as machines: the table of a machine, one entry more, and tables with one map.
if_some : (n : ℕ) (o : Option Entry) → ((e : Entry) → o ≡ Some e → e.next.0 < n) → IfSome o (λ e. e.next.0 < n)
if_some n None inside = tt
if_some n (Some e) inside = inside e refl

-- a machine within the limit is a map that a table can have
map_of : (n : ℕ) (m : Machine) → IsMachine n m → n ≤ state_limit → IsMapOf n m
map_of n m i limit = record { some = i.some; limit = limit; beyond = i.beyond; inside = λ q s. if_some n (m q s) (i.inside q s) }

-- one entry more in a table
pub with_entry_states : (p : Packed) (q : ℕ) (s : Sym) (e : Entry) → (with_entry p q s e).states ≡ p.states
unfolding with_entry tabulated
with_entry_states p q s e = refl

pub with_entry_fills : (p : Packed) (q : ℕ) (s : Sym) (e : Entry) → IsTable p → q < p.states → e.next.0 < p.states → entry_of (with_entry p q s e) ≡ filled (entry_of p) q s e
with_entry_fills p q s e table state target = same_program (entry_of (with_entry p q s e)) (filled (entry_of p) q s e) (entry_of-with_entry p q s e table state target)

pub with_entry_table : (p : Packed) (q : ℕ) (s : Sym) (e : Entry) → IsTable p → q < p.states → e.next.0 < p.states → IsTable (with_entry p q s e)
with_entry_table p q s e table state target = IsTable-with_entry p q s e table state target

-- tables of as many states with one map are one
pub same_table : (p t : Packed) → IsTable p → IsTable t → p.states ≡ t.states → entry_of p ≡ entry_of t → p ≡ t
same_table p t i j states maps = one_table p t i j states (λ q s. ap (λ (m : Machine). m q s) maps)

-- the table of a machine
pub tabulated_states : (n : ℕ) (m : Machine) → (tabulated n m).states ≡ n
unfolding tabulated
tabulated_states n m = refl

pub tabulated_map : (n : ℕ) (m : Machine) → IsMachine n m → n ≤ state_limit → entry_of (tabulated n m) ≡ m
tabulated_map n m i limit = same_program (entry_of (tabulated n m)) m (entry_of-tabulated n m (map_of n m i limit))

pub tabulated_table : (n : ℕ) (m : Machine) → IsMachine n m → n ≤ state_limit → IsTable (tabulated n m)
tabulated_table n m i limit = IsTable-tabulated n m (map_of n m i limit)

-- Tables and their maps: the children, the trees and the bests of the one are those of the other.

-- t is a table of as many states as p
pub record IsAlike (p t : Packed) : Type 0 where
  pub is_table : IsTable t
  pub states : t.states ≡ p.states

-- a child of a table is a table of as many states
pub child_alike : (p t : Packed) → IsTable p → IsChildTable p t → IsAlike p t
child_alike p t i x =
    let within = pair_within p.states (entry_of p) x.count x.state x.symbol (table_machine p i) x.halts in
    record {
      is_table = rw x.is (with_entry_table p x.state x.symbol x.entry i within x.is_entry.within);
      states = ap (λ (y : Packed). y.states) x.is ∙ with_entry_states p x.state x.symbol x.entry;
    }

-- its map is a child of the map
pub child_map : (p t : Packed) → IsTable p → IsChildTable p t → IsChild p.states (entry_of p) (entry_of t)
child_map p t i x =
    let within = pair_within p.states (entry_of p) x.count x.state x.symbol (table_machine p i) x.halts in
    record {
      used = x.used;
      in_order = x.in_order;
      count = x.count;
      state = x.state;
      symbol = x.symbol;
      halts = x.halts;
      undefined = x.undefined;
      entry = x.entry;
      is_entry = x.is_entry;
      is = ap entry_of x.is ∙ with_entry_fills p x.state x.symbol x.entry i within x.is_entry.within;
    }

-- each child of the map is the map of a child
pub child_table : (p : Packed) (c : Machine) → IsTable p → IsChild p.states (entry_of p) c → (t : Packed) × IsChildTable p t × (entry_of t ≡ c)
child_table p c i x =
    let within = pair_within p.states (entry_of p) x.count x.state x.symbol (table_machine p i) x.halts in (
      with_entry p x.state x.symbol x.entry,
      record {
        used = x.used;
        in_order = x.in_order;
        count = x.count;
        state = x.state;
        symbol = x.symbol;
        halts = x.halts;
        undefined = x.undefined;
        entry = x.entry;
        is_entry = x.is_entry;
        is = refl;
      },
      with_entry_fills p x.state x.symbol x.entry i within x.is_entry.within ∙ sym x.is,
    )

-- the tables of a tree are alike, and their maps stand in the tree of the map
pub tree_alike : (p t : Packed) → IsTable p → InTableTree p t → IsAlike p t
tree_alike p t i Itself = record { is_table = i; states = refl }
tree_alike p t i (OfChild {c} x below) =
    let child = child_alike p c i x in
    let under = tree_alike c t child.is_table below in
    record { is_table = under.is_table; states = under.states ∙ child.states }

pub tree_map : (p t : Packed) → IsTable p → InTableTree p t → InTree p.states (entry_of p) (entry_of t)
tree_map p t i Itself = Root
tree_map p t i (OfChild {c} x below) =
    let child = child_alike p c i x in
    Below (child_map p c i x) (subst (λ n. InTree n (entry_of c) (entry_of t)) child.states (tree_map c t child.is_table below))

-- a child of a table of the tree stands in the tree
pub tree_table_child : (r p t : Packed) → InTableTree r p → IsChildTable p t → InTableTree r t
tree_table_child r p t Itself x = OfChild x Itself
tree_table_child r p t (OfChild {c} y below) x = OfChild y (tree_table_child c p t below x)

-- each table of the tree of a table in order is in order
pub tree_in_order : (p t : Packed) (u : ℕ) → IsTable p → InOrder u (entry_of p) → InTableTree p t → (v : ℕ) × InOrder v (entry_of t)
tree_in_order p t u i o Itself = (u, o)
tree_in_order p t u i o (OfChild {c} x below) =
    let child = child_map p c i x in
    tree_in_order c t (max child.used (child.entry.next.0 + 1)) (child_alike p c i x).is_table (child_in_order p.states (entry_of p) (entry_of c) child) below

-- each machine of the tree of the map is the map of a table of the tree
pub tree_table : (n : ℕ) (m x : Machine) (p : Packed) → IsTable p → p.states ≡ n → entry_of p ≡ m → InTree n m x → (t : Packed) × InTableTree p t × (entry_of t ≡ x)
tree_table n m x p i states maps Root = (p, Itself, maps)
tree_table n m x p i states maps (Below {c} child below) =
    let here : IsChild p.states (entry_of p) c = subst (λ (y : Machine). IsChild p.states y c) (sym maps) (subst (λ k. IsChild k m c) (sym states) child) in
    let (t, found, same) = child_table p c i here in
    let alike = child_alike p t i found in
    let (u, under, is) = tree_table n c x t alike.is_table (alike.states ∙ states) same below in
    (u, OfChild found under, is)

-- a verdict on each table is one on each machine
pub decided_map : (p : Packed) → IsTable p → IsDecidedTable p → IsDecided p.states (entry_of p)
decided_map p i decided m x =
    let (t, below, same) = tree_table p.states (entry_of p) m p i refl refl x in
    subst (λ (y : Machine). ((k : ℕ) × HaltsAt y k) ⊎ Never y) same (decided t below)

-- tables are one where their maps are
pub one_table_parent : (p a b t : Packed) → IsTable p → InTableTree p a → InTableTree p b → IsChildTable a t → IsChildTable b t → a ≡ b
one_table_parent p a b t i x y f g =
    let first = tree_alike p a i x in
    let second = tree_alike p b i y in
    let below : IsChild p.states (entry_of a) (entry_of t) = subst (λ n. IsChild n (entry_of a) (entry_of t)) first.states (child_map a t first.is_table f) in
    let under : IsChild p.states (entry_of b) (entry_of t) = subst (λ n. IsChild n (entry_of b) (entry_of t)) second.states (child_map b t second.is_table g) in
    same_table a b first.is_table second.is_table (first.states ∙ sym second.states)
    (one_parent p.states (entry_of p) (entry_of a) (entry_of b) (entry_of t) (table_machine p i) (tree_map p a i x) (tree_map p b i y) below under)

module _ (V : Machine → ℕ → Type 0) where
  -- extensions of a table and of its map attain the same
  attains_map : (p : Packed) (k : ℕ) → IsTable p → TableAttains V p k → Attains V p.states (entry_of p) k
  attains_map p k i a = record { big = entry_of a.big; is_machine = subst (λ n. IsMachine n (entry_of a.big)) a.states (table_machine a.big a.is_table); extends = a.extends; worth = a.worth }

  attains_table : (p : Packed) (k : ℕ) → IsTable p → Attains V p.states (entry_of p) k → TableAttains V p k
  attains_table p k i a =
      let same = tabulated_map p.states a.big a.is_machine i.limit in
      record {
        big = tabulated p.states a.big;
        is_table = tabulated_table p.states a.big a.is_machine i.limit;
        states = tabulated_states p.states a.big;
        extends = subst (λ (m : Machine). Extends m (entry_of p)) (sym same) a.extends;
        worth = subst (λ (m : Machine). V m k) (sym same) a.worth;
      }

  pub best_of_map : (p : Packed) (b : Option ℕ) → IsTable p → IsBestOfTable V p b ↔ IsBest V p.states (entry_of p) b
  best_of_map p None i = (λ none k a. none k (attains_table p k i a), λ none k a. none k (attains_map p k i a))
  best_of_map p (Some s) i = (
    λ best. (attains_map p s i best.0, λ k a. best.1 k (attains_table p k i a)),
    λ best. (attains_table p s i best.0, λ k a. best.1 k (attains_map p k i a)),
  )

  -- the greatest over the tables of the tree is that over their maps
  pub greatest_of_maps : (p : Packed) (b : Option ℕ) → IsTable p → IsGreatestInTables V p b ↔ IsGreatestInTree V p.states (entry_of p) b
  greatest_of_maps p b i = (there b, back b)
    where
      table_of : (m : Machine) (k : ℕ) → InTree p.states (entry_of p) m → V m k → (t : Packed) × InTableTree p t × V (entry_of t) k
      table_of m k x v =
          let (t, below, same) = tree_table p.states (entry_of p) m p i refl refl x in
          (t, below, subst (λ (y : Machine). V y k) (sym same) v)

      there : (b : Option ℕ) → IsGreatestInTables V p b → IsGreatestInTree V p.states (entry_of p) b
      there None none = λ m k x v. let (t, below, w) = table_of m k x v in none t k below w
      there (Some s) greatest =
          ((entry_of greatest.0.0, tree_map p greatest.0.0 i greatest.0.1, greatest.0.2), λ m k x v. let (t, below, w) = table_of m k x v in greatest.1 t k below w)

      back : (b : Option ℕ) → IsGreatestInTree V p.states (entry_of p) b → IsGreatestInTables V p b
      back None none = λ t k x v. none (entry_of t) k (tree_map p t i x) v
      back (Some s) greatest = (table_of greatest.0.0 s greatest.0.1 greatest.0.2, λ t k x v. greatest.1 (entry_of t) k (tree_map p t i x) v)

  -- so the best of a table is the greatest in its tree
  pub table_best : (w : IsWorth V) (p : Packed) (u : ℕ) → IsTable p → InOrder u (entry_of p) → IsDecidedTable p → (b : Option ℕ) → IsBestOfTable V p b ↔ IsGreatestInTables V p b
  table_best w p u i o decided b =
      let best = best_of_map p b i in
      let same = best_is_greatest V w p.states u (entry_of p) (table_machine p i) o (decided_map p i decided) b in
      let greatest = greatest_of_maps p b i in
      (λ x. greatest.1 (same.0 (best.0 x)), λ x. best.1 (same.1 (greatest.0 x)))

-- A closed table has its whole tree recorded, so the greatest that is recorded there is its best.

-- a mark that gives a verdict: the table halts in so many steps, or never does
verdict_cases : (o : Option Mark) → IsVerdict o → ((k : ℕ) × (o ≡ Some (Halting k))) ⊎ (o ≡ Some NeverHalting)
verdict_cases None v = absurd v
verdict_cases (Some (Halting k)) v = inl (k, refl)
verdict_cases (Some NeverHalting) v = inr refl
verdict_cases (Some Holdout) v = absurd v

-- nothing is recorded, or a holdout, or a verdict
mark_cases : (o : Option Mark) → (o ≡ None) ⊎ ((o ≡ Some Holdout) ⊎ IsVerdict o)
mark_cases None = inl refl
mark_cases (Some (Halting k)) = inr (inr tt)
mark_cases (Some NeverHalting) = inr (inr tt)
mark_cases (Some Holdout) = inr (inl refl)

-- two true verdicts on a table are one
pub one_mark : (t : Packed) (a b : Option Mark) → IsTrueMark t a → IsTrueMark t b → IsVerdict a → IsVerdict b → a ≡ b
one_mark t a b p q v w = elim (verdict_cases a v) [
  | inl x ↦ elim (verdict_cases b w) [
    | inl y ↦ x.1 ∙ ap (λ j. Some (Halting j)) (one_count (entry_of t) x.0 y.0 (subst (IsTrueMark t) x.1 p) (subst (IsTrueMark t) y.1 q)) ∙ sym y.1
    | inr y ↦ absurd (never_stops (subst (IsTrueMark t) y q) x.0 (subst (IsTrueMark t) x.1 p))
  ]
  | inr x ↦ elim (verdict_cases b w) [
    | inl y ↦ absurd (never_stops (subst (IsTrueMark t) x p) y.0 (subst (IsTrueMark t) y.1 q))
    | inr y ↦ x ∙ sym y
  ]
]
  where
    never_stops : Never (entry_of t) → (k : ℕ) → HaltsAt (entry_of t) k → ⊥
    never_stops never k h = never k h

-- the marks are true
module _ (root : Packed) (marks : Packed → Option Mark) (true_marks : (t : Packed) → IsTrueMark t (marks t)) where
  pub stops_marked : (t : Packed) (k : ℕ) → marks t ≡ Some (Halting k) → HaltsAt (entry_of t) k
  stops_marked t k is = subst (IsTrueMark t) is (true_marks t)

  never_marked : (t : Packed) → marks t ≡ Some NeverHalting → Never (entry_of t)
  never_marked t is = subst (IsTrueMark t) is (true_marks t)

  -- a table with a verdict that halts is recorded as halting
  stopping_is_marked : (t : Packed) (k : ℕ) → IsVerdict (marks t) → HaltsAt (entry_of t) k → marks t ≡ Some (Halting k)
  stopping_is_marked t k v halts = elim (verdict_cases (marks t) v) [
    | inl there ↦ there.1 ∙ ap (λ j. Some (Halting j)) (one_count (entry_of t) there.0 k (stops_marked t there.0 there.1) halts)
    | inr never ↦ absurd (never_marked t never k halts)
  ]

  -- a child of a closed table is closed
  pub closed_child : (p c : Packed) → IsClosed root marks p → IsChildTable p c → IsClosed root marks c
  closed_child p c closed x = elim (mark_cases (marks c)) [
    | inl unmarked ↦ (
        let halts = stopping_is_marked p x.count closed.verdict x.halts.halts in
        absurd (closed.none_open c (OfChild x Itself) (record { unmarked = unmarked; place = inr (p, x.count, halts, x) })))
    | inr (inl held) ↦ absurd (closed.no_holdout c (OfChild x Itself) held)
    | inr (inr verdict) ↦ record { verdict = verdict; none_open = λ t below. closed.none_open t (OfChild x below); no_holdout = λ t below. closed.no_holdout t (OfChild x below) }
  ]

  -- and so is each table of its tree
  pub closed_below : (p t : Packed) → IsClosed root marks p → InTableTree p t → IsClosed root marks t
  closed_below p t closed Itself = closed
  closed_below p t closed (OfChild {c} x below) = closed_below c t (closed_child p c closed x) below

  -- so each of them has a verdict
  pub closed_verdict : (p t : Packed) → IsClosed root marks p → InTableTree p t → IsVerdict (marks t)
  closed_verdict p t closed below = (closed_below p t closed below).verdict

  pub closed_decided : (p : Packed) → IsClosed root marks p → IsDecidedTable p
  closed_decided p closed t below = elim (verdict_cases (marks t) (closed_verdict p t closed below)) [
    | inl there ↦ inl (there.0, stops_marked t there.0 there.1)
    | inr never ↦ inr (never_marked t never)
  ]

  -- where no table is open and none is a holdout, the root is closed
  pub complete_closed : IsComplete root marks → IsClosed root marks root
  complete_closed complete = elim (mark_cases (marks root)) [
    | inl unmarked ↦ absurd (complete.none_open root (record { unmarked = unmarked; place = inl refl }))
    | inr (inl held) ↦ absurd (complete.no_holdout root held)
    | inr (inr verdict) ↦ record { verdict = verdict; none_open = λ t below. complete.none_open t; no_holdout = λ t below. complete.no_holdout t }
  ]

  -- the recorded value of a table that halts is its worth
  module _ (V : Machine → ℕ → Type 0) (w : IsWorth V) (value : Packed → ℕ → ℕ) (worth : (t : Packed) (k : ℕ) → marks t ≡ Some (Halting k) → V (entry_of t) (value t k)) where
    recorded_is_greatest : (p : Packed) → IsClosed root marks p → (b : Option ℕ) → IsGreatestInTables V p b ↔ IsGreatestRecorded value marks p b
    recorded_is_greatest p closed b = (there b, back b)
      where
        mark_of : (t : Packed) (s : ℕ) → InTableTree p t → V (entry_of t) s → (k : ℕ) × (marks t ≡ Some (Halting k)) × (s ≡ value t k)
        mark_of t s below v =
            let h = w.halts (entry_of t) s v in
            let is = stopping_is_marked t h.0 (closed_verdict p t closed below) h.1 in
            (h.0, is, w.one (entry_of t) s (value t h.0) v (worth t h.0 is))

        there : (b : Option ℕ) → IsGreatestInTables V p b → IsGreatestRecorded value marks p b
        there None none = λ t k below is. none t (value t k) below (worth t k is)
        there (Some s) greatest =
            let (t, below, v) = greatest.0 in
            let (k, is, same) = mark_of t s below v in
            ((t, k, below, is, same), λ t k below is. greatest.1 t (value t k) below (worth t k is))

        back : (b : Option ℕ) → IsGreatestRecorded value marks p b → IsGreatestInTables V p b
        back None none = λ t s below v. let (k, is, same) = mark_of t s below v in none t k below is
        back (Some s) greatest =
            let (t, k, below, is, same) = greatest.0 in (
              (t, below, subst (V (entry_of t)) (sym same) (worth t k is)),
              λ t x below v. let (k, is, same) = mark_of t x below v in subst (λ y. y ≤ s) (sym same) (greatest.1 t k below is),
            )

    -- closed: the greatest recorded is the best of all extensions
    pub closed_best : (p : Packed) (u : ℕ) → IsTable p → InOrder u (entry_of p) → IsClosed root marks p → (b : Option ℕ) → IsBestOfTable V p b ↔ IsGreatestRecorded value marks p b
    closed_best p u i o closed b =
        let best = table_best V w p u i o (closed_decided p closed) b in
        let recorded = recorded_is_greatest p closed b in
        (λ x. recorded.0 (best.0 x), λ x. best.1 (recorded.1 x))

-- The tree of the empty table: its greatest is the greatest of all machines of as many states.

-- the empty table's map is the machine without entries
pub empty_map : (n : ℕ) → 1 ≤ n → n ≤ state_limit → entry_of (empty_table n) ≡ empty_machine
empty_map n some limit = tabulated_map n empty_machine (empty_is_machine n some) limit

pub empty_is_table : (n : ℕ) → 1 ≤ n → n ≤ state_limit → IsTable (empty_table n)
empty_is_table n some limit = tabulated_table n empty_machine (empty_is_machine n some) limit

-- so it is in order
pub empty_table_in_order : (n : ℕ) → 1 ≤ n → n ≤ state_limit → InOrder 1 (entry_of (empty_table n))
empty_table_in_order n some limit = subst (InOrder 1) (sym (empty_map n some limit)) empty_in_order

module _ (V : Machine → ℕ → Type 0) where
  pub best_of_empty_table : (n s : ℕ) → 1 ≤ n → n ≤ state_limit → IsBestOfTable V (empty_table n) (Some s) ↔ IsGreatestOfAll V n s
  best_of_empty_table n s some limit =
      let p = empty_table n in
      let best = best_of_map V p (Some s) (empty_is_table n some limit) in
      let all = best_of_empty V n s in
      let map = empty_map n some limit in
      let states = tabulated_states n empty_machine in (
        λ x. all.0 (subst (λ k. IsBest V k empty_machine (Some s)) states (subst (λ (m : Machine). IsBest V p.states m (Some s)) map (best.0 x))),
        λ x. best.1 (subst (λ (m : Machine). IsBest V p.states m (Some s)) (sym map) (subst (λ k. IsBest V k empty_machine (Some s)) (sym states) (all.1 x))),
      )

  pub greatest_of_all_tables : (w : IsWorth V) (n s : ℕ) → 1 ≤ n → n ≤ state_limit → IsDecidedTable (empty_table n) → IsGreatestInTables V (empty_table n) (Some s) ↔ IsGreatestOfAll V n s
  greatest_of_all_tables w n s some limit decided =
      let same = table_best V w (empty_table n) 1 (empty_is_table n some limit) (empty_table_in_order n some limit) decided (Some s) in
      let all = best_of_empty_table n s some limit in
      (λ x. all.0 (same.1 x), λ x. same.0 (all.1 x))
