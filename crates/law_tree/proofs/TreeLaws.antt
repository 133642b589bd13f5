-- What a machine's tree attains is what its extensions attain, and each machine has one parent.
use Rattle.std.proofs.Common.{◌≡◌, ℕ, zero, suc, ◌+◌, ◌≤◌, Option, Some, None, refl, inl, inr, ◌↔◌, arith, sym, ◌∙◌, ap, subst, pos, ◌⊎◌}
use Prim.Native.Nat.{max}
use Rattle.std.proofs.lemmas.Bool.{cases_lt}
use Rattle.std.proofs.lemmas.Option.{same_Some, none-some}
use Rattle.machine_text.specs.Terms.{holes}
use Rattle.law_turing.specs.Terms.{Machine, IsMachine, symbol_read, Extends, Config, start, after, next, HaltsAt, IsRado, Never}
use Rattle.law_tree.specs.Tree.{filled, InOrder, IsChild, InTree, IsDecided, IsGreatestInTree, Attains, IsBest, HaltsOn, empty_machine, IsGreatestOfAll}
use Rattle.law_tree.specs.Tree.InTree.{Root, Below}
use Rattle.law_tree.proofs.Filling.{filled_extends, filled_machine, holes_filled, filled_at, extends_itself, extends_twice, extends_empty, empty_is_machine}
use Rattle.law_tree.proofs.Used.{filled_in_order, empty_in_order}
use Rattle.law_tree.proofs.Extensions.{stops_on, pair_undefined, pair_within, pair_used, IsWorth, attains_itself, attains_below, never_attains, only_attains, covered}
use Rattle.machine_text.specs.declared.table.Sym.{Sym}
use Rattle.law_turing.proofs.RunLaws.{one_end, from_zero, next_taken}
use Rattle.machine_text.specs.declared.table.Sym.TheVariants.{Zero}
use Rattle.machine_text.specs.declared.table.Entry.{Entry}
use Rattle.law_turing.proofs.Cycles.{start_blank, rado_of_one}

-- What the tree of a machine attains, all its extensions attain, and nothing else.

-- a child is a machine in order, and extends its parent by one pair
pub child_machine : (n : ℕ) (m c : Machine) → IsMachine n m → IsChild n m c → IsMachine n c
child_machine n m c i x =
    rw x.is (filled_machine n m x.state x.symbol x.entry i (pair_within n m x.count x.state x.symbol i x.halts) x.is_entry.within)

pub child_in_order : (n : ℕ) (m c : Machine) (x : IsChild n m c) → InOrder (max x.used (x.entry.next.0 + 1)) c
child_in_order n m c x =
    rw x.is (filled_in_order x.used m x.state x.symbol x.entry x.in_order (pair_used x.used m x.count x.state x.symbol x.in_order x.halts) (pair_undefined m x.count x.state x.symbol x.halts) x.is_entry.target)

pub child_extends : (n : ℕ) (m c : Machine) → IsChild n m c → Extends c m
child_extends n m c x = rw x.is (filled_extends m x.state x.symbol x.entry (pair_undefined m x.count x.state x.symbol x.halts))

pub child_holes : (n : ℕ) (m c : Machine) → IsMachine n m → IsChild n m c → holes n m ≡ holes n c + 1
child_holes n m c i x =
    rw x.is (holes_filled n m x.state x.symbol x.entry (pair_within n m x.count x.state x.symbol i x.halts) (pair_undefined m x.count x.state x.symbol x.halts))

-- a child of a machine of the tree stands in the tree
pub tree_child : (n : ℕ) (m p t : Machine) → InTree n m p → IsChild n p t → InTree n m t
tree_child n m p t Root x = Below x Root
tree_child n m p t (Below {c} y below) x = Below y (tree_child n c p t below x)

-- the tree of a child is part of the tree
pub decided_below : (n : ℕ) (m c : Machine) → IsDecided n m → IsChild n m c → IsDecided n c
decided_below n m c d x t i = d t (Below x i)

module _ (V : Machine → ℕ → Type 0) (w : IsWorth V) where
  -- what a machine of the tree is worth, an extension of the root attains
  pub tree_attains : (n : ℕ) (m t : Machine) (k : ℕ) → IsMachine n m → InTree n m t → V t k → Attains V n m k
  tree_attains n m t k i Root v = attains_itself V w n m k i v
  tree_attains n m t k i (Below {c} x below) v = attains_below V w n c m k (child_extends n m c x) (tree_attains n c t k (child_machine n m c i x) below v)

  -- where the tree is decided, what an extension attains some machine of the tree is worth
  pub attained_in_tree : (d n u : ℕ) (m : Machine) (k : ℕ) → holes n m ≤ d → IsMachine n m → InOrder u m → IsDecided n m → Attains V n m k → (t : Machine) × InTree n m t × V t k
  attained_in_tree zero n u m k le i o decided a = elim (decided m Root) [
    | inr never ↦ absurd (never_attains V w n m k never a)
    | inl halts ↦ (
        let h = stops_on m halts.0 halts.1 in
        (m, Root, only_attains V w n m halts.0 halts.1.at.state (symbol_read halts.1.at.tape) k i (omega arith) h a))
  ]
  attained_in_tree (suc d) n u m k le i o decided a = elim (decided m Root) [
    | inr never ↦ absurd (never_attains V w n m k never a)
    | inl halts ↦ (
        let q = halts.1.at.state in
        let s = symbol_read halts.1.at.tape in
        let h = stops_on m halts.0 halts.1 in
        elim (cases_lt 1 (holes n m)) [
          | inr one ↦ (m, Root, only_attains V w n m halts.0 q s k i one h a)
          | inl two ↦ elim (covered V w n u m halts.0 q s k i o h a) [
            | inl own ↦ (m, Root, own)
            | inr found ↦ (
                let (e, entry, attained) = found in
                let c = filled m q s e in
                let x : IsChild n m c = record { used = u; in_order = o; count = halts.0; state = q; symbol = s; halts = h; undefined = two; entry = e; is_entry = entry; is = refl } in
                let fewer = child_holes n m c i x in
                let (t, below, v) = attained_in_tree d n (max u (e.next.0 + 1)) c k (omega arith) (child_machine n m c i x) (child_in_order n m c x) (decided_below n m c decided x) attained in
                (t, Below x below, v))
          ]
        ])
  ]

  -- so the best of all extensions is the greatest in the tree
  pub best_is_greatest : (n u : ℕ) (m : Machine) → IsMachine n m → InOrder u m → IsDecided n m → (b : Option ℕ) → IsBest V n m b ↔ IsGreatestInTree V n m b
  best_is_greatest n u m i o decided b = (there b, back b)
    where
      in_tree : (k : ℕ) → Attains V n m k → (t : Machine) × InTree n m t × V t k
      in_tree k a = attained_in_tree (holes n m) n u m k (omega arith) i o decided a

      there : (b : Option ℕ) → IsBest V n m b → IsGreatestInTree V n m b
      there None best = λ t k x v. best k (tree_attains n m t k i x v)
      there (Some s) best = (in_tree s best.0, λ t k x v. best.1 k (tree_attains n m t k i x v))

      back : (b : Option ℕ) → IsGreatestInTree V n m b → IsBest V n m b
      back None none = λ t a. let (x, in', v) = in_tree t a in none x t in' v
      back (Some s) greatest = (tree_attains n m greatest.0.0 s i greatest.0.1 greatest.0.2, λ t a. let (x, in', v) = in_tree t a in greatest.1 x t in' v)

-- Each machine of a tree but the root is the child of one machine of the tree alone.

-- a machine halts on one pair
pub same_state : (m : Machine) (j k q p : ℕ) (s r : Sym) → HaltsOn m j q s → HaltsOn m k p r → q ≡ p
same_state m j k q p s r g h = sym g.state ∙ ap (λ (c : Config). c.state) (one_end m j k g.halts h.halts) ∙ h.state

pub same_read : (m : Machine) (j k q p : ℕ) (s r : Sym) → HaltsOn m j q s → HaltsOn m k p r → s ≡ r
same_read m j k q p s r g h = sym g.symbol ∙ ap (λ (c : Config). symbol_read c.tape) (one_end m j k g.halts h.halts) ∙ h.symbol

-- a machine of the tree extends the root, and has no more undefined pairs
pub tree_machine : (n : ℕ) (m t : Machine) → IsMachine n m → InTree n m t → IsMachine n t
tree_machine n m t i Root = i
tree_machine n m t i (Below {c} x below) = tree_machine n c t (child_machine n m c i x) below

pub tree_extends : (n : ℕ) (m t : Machine) → InTree n m t → Extends t m
tree_extends n m t Root = extends_itself m
tree_extends n m t (Below {c} x below) = extends_twice t c m (tree_extends n c t below) (child_extends n m c x)

pub tree_holes : (n : ℕ) (m t : Machine) → IsMachine n m → InTree n m t → holes n t ≤ holes n m
tree_holes n m t i Root = omega arith
tree_holes n m t i (Below {c} x below) =
    let fewer = child_holes n m c i x in
    let less = tree_holes n c t (child_machine n m c i x) below in
    omega arith

-- the child's entry stands at the pair on which the parent halts
pub child_at : (n : ℕ) (m c : Machine) (x : IsChild n m c) → c x.state x.symbol ≡ Some x.entry
child_at n m c x = rw x.is (filled_at m x.state x.symbol x.entry)

-- two children of one machine that a third one extends are one
pub same_child : (n : ℕ) (m c d t : Machine) → IsChild n m c → IsChild n m d → Extends t c → Extends t d → c ≡ d
same_child n m c d t x y f g =
    let state = same_state m x.count y.count x.state y.state x.symbol y.symbol x.halts y.halts in
    let symbol = same_read m x.count y.count x.state y.state x.symbol y.symbol x.halts y.halts in
    let here : t x.state x.symbol ≡ Some x.entry = f.is x.state x.symbol x.entry (child_at n m c x) in
    let there : t y.state y.symbol ≡ Some y.entry = g.is y.state y.symbol y.entry (child_at n m d y) in
    let entry : x.entry ≡ y.entry = same_Some x.entry y.entry (sym here ∙ ap (λ q. t q x.symbol) state ∙ ap (t y.state) symbol ∙ there) in
    x.is ∙ ap (λ q. filled m q x.symbol x.entry) state ∙ ap (λ s. filled m y.state s x.entry) symbol ∙ ap (filled m y.state y.symbol) entry ∙ sym y.is

-- no machine of a tree has the root as a child
no_way_back : (n : ℕ) (m b : Machine) → IsMachine n m → InTree n m b → IsChild n b m → ⊥
no_way_back n m b i below x =
    let fewer = child_holes n b m (tree_machine n m b i below) x in
    let less = tree_holes n m b i below in
    omega arith

pub one_parent : (n : ℕ) (m a b t : Machine) → IsMachine n m → InTree n m a → InTree n m b → IsChild n a t → IsChild n b t → a ≡ b
one_parent n m a b t i Root Root x y = refl
one_parent n m a b t i Root (Below {c} z below) x y =
    let same : c ≡ t = same_child n m c t t z x (extends_twice t b c (child_extends n b t y) (tree_extends n c b below)) (extends_itself t) in
    absurd (no_way_back n c b (child_machine n m c i z) below (subst (λ (p : Machine). IsChild n b p) (sym same) y))
one_parent n m a b t i (Below {c} z below) Root x y =
    let same : c ≡ t = same_child n m c t t z y (extends_twice t a c (child_extends n a t x) (tree_extends n c a below)) (extends_itself t) in
    absurd (no_way_back n c a (child_machine n m c i z) below (subst (λ (p : Machine). IsChild n a p) (sym same) x))
one_parent n m a b t i (Below {c} z below) (Below {c = d} v under) x y =
    let same : d ≡ c = same_child n m d c t v z (extends_twice t b d (child_extends n b t y) (tree_extends n d b under)) (extends_twice t a c (child_extends n a t x) (tree_extends n c a below)) in
    one_parent n c a b t (child_machine n m c i z) below (subst (λ (p : Machine). InTree n p b) same under) x y

-- Every machine extends the empty one, so its best is the greatest of all machines.
module _ (V : Machine → ℕ → Type 0) where
  pub best_of_empty : (n s : ℕ) → IsBest V n empty_machine (Some s) ↔ IsGreatestOfAll V n s
  best_of_empty n s = (
    λ best. record {
      champion = best.0.big;
      is_machine = best.0.is_machine;
      worth = best.0.worth;
      greatest = λ m k i v. best.1 k (record { big = m; is_machine = i; extends = extends_empty m; worth = v });
    },
    λ all. (record { big = all.champion; is_machine = all.is_machine; extends = extends_empty all.champion; worth = all.worth }, λ t a. all.greatest a.big t a.is_machine a.worth),
  )

  pub greatest_of_all : (w : IsWorth V) (n s : ℕ) → 1 ≤ n → IsDecided n empty_machine → IsGreatestInTree V n empty_machine (Some s) ↔ IsGreatestOfAll V n s
  greatest_of_all w n s some decided =
      let same = best_is_greatest V w n 1 empty_machine (empty_is_machine n some) empty_in_order decided (Some s) in
      (λ g. (best_of_empty n s).0 (same.1 g), λ all. same.0 ((best_of_empty n s).1 all))

-- of the numbers of steps that is Radó's number
pub rado_is_greatest : (n s : ℕ) → IsGreatestOfAll HaltsAt n s ↔ IsRado n s
rado_is_greatest n s = (
  λ g. record { champion = g.champion; is_machine = g.is_machine; halts = g.worth; greatest = g.greatest },
  λ r. record { champion = r.champion; is_machine = r.is_machine; worth = r.halts; greatest = r.greatest },
)

-- The tree of the one-state machine without entries: it halts at once, and its children never do.

-- without an entry at its first pair a machine halts at once
abbrev empty_stops : HaltsAt empty_machine 1
empty_stops = record { last = 0; at = start; is = from_zero empty_machine start; over = refl; count = refl }

-- a one-state machine with an entry there never halts
moves_for_ever : (c : Machine) (e : Entry) → IsMachine 1 c → c 0 Zero ≡ Some e → Never c
moves_for_ever c e i is k halts =
    let once : k ≤ 1 = rado_of_one.greatest c k i halts in
    let first : halts.last ≡ 0 = let count = halts.count in omega arith in
    let at : halts.at ≡ start = same_Some halts.at start (sym halts.is ∙ ap (after c) first ∙ from_zero c start) in
    let entry : c start.state (symbol_read start.tape) ≡ Some e = ap (c 0) (start_blank (pos 0)) ∙ is in
    none-some _ (sym halts.over ∙ ap (next c) at ∙ next_taken c start e entry)

-- so each child of the empty machine never halts
child_never : (c : Machine) → IsChild 1 empty_machine c → Never c
child_never c x =
    let at : x.halts.halts.at ≡ start = one_end empty_machine x.count 1 x.halts.halts empty_stops in
    let state : x.state ≡ 0 = sym x.halts.state ∙ ap (λ (d : Config). d.state) at in
    let symbol : x.symbol ≡ Zero = sym x.halts.symbol ∙ ap (λ (d : Config). symbol_read d.tape) at ∙ start_blank (pos 0) in
    let there : c 0 Zero ≡ Some x.entry = sym (ap (λ q. c q x.symbol) state ∙ ap (c 0) symbol) ∙ child_at 1 empty_machine c x in
    moves_for_ever c x.entry (child_machine 1 empty_machine c (empty_is_machine 1 (omega arith)) x) there

-- a machine that never halts has no children
never_alone : (m t : Machine) → Never m → InTree 1 m t → ((k : ℕ) × HaltsAt t k) ⊎ Never t
never_alone m t never Root = inr never
never_alone m t never (Below x below) = absurd (never x.count x.halts.halts)

decided_from : (m t : Machine) → m ≡ empty_machine → InTree 1 m t → ((k : ℕ) × HaltsAt t k) ⊎ Never t
decided_from m t is Root = inl (1, subst (λ (p : Machine). HaltsAt p 1) (sym is) empty_stops)
decided_from m t is (Below {c} x below) = never_alone c t (child_never c (subst (λ (p : Machine). IsChild 1 p c) is x)) below

pub one_state_decided : IsDecided 1 empty_machine
one_state_decided t x = decided_from empty_machine t refl x
