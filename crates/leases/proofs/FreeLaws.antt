-- Which tables are free, as some come in and go, and when the children of one are open.
use Rattle.std.proofs.Common.{◌≡◌, ℕ, ◌||◌, Bool, true, false, cond, refl, ap, subst, inl, inr, List, [], ◌∷◌, map, filter, Contains, nat_eq, arith, ◌++◌, if◌then◌else◌, sym, ◌∙◌, Option, Some, None, IfSome, IfNone, ◌+◌, ◌<◌, ◌≤◌, length, get_or, below_more, ◌⊎◌, ◌↔◌, All}
use Rattle.std.proofs.lemmas.Bool.{eqb-true, eq-eqb}
use Rattle.std.specs.Ordering.{is_lt}
use Rattle.std.specs.BinaryHeap.{IsUpperBound}
use Rattle.std.specs.List.Sorted.{IsPermutation}
use Rattle.std.specs.declared.cmp.Reverse.{Reverse}
use Rattle.std.proofs.lemmas.List.Elements.{All-from_recursion, All-contains, Contains-append_left, at_read}
use Rattle.std.proofs.lemmas.List.Sorted.{Contains-permutation}
use Rattle.std.specs.List.{list_any}
use Rattle.std.specs.Option.{option_map}
use Rattle.ledger.proofs.HeldLaws.{first_or_later, later_member, first_member, all_members}
use Rattle.leases.specs.Leases.{is_live}
use Rattle.leases.specs.inside.{StoredLease, as_lease, ComesIn, IsOnTop, LosesOnly, reverse_cmp}
use Rattle.machine_text.specs.Terms.{Packed, table_cmp, IsTable, entry_of}
use Rattle.ledger.specs.Terms.{same_table, Contents, IsBoard, IsOpenOn, mark_in, mark_of, mark_by, IsFit, Resolves, resolved, AreAll, IsHalting}
use Rattle.ledger.proofs.Claims.{same_is, same_at, not_same}
use Rattle.indexmap.specs.IndexSet.{insert_key}
use Rattle.indexmap.proofs.CallerLemmas.{Contains-insert_key, Contains-list_any}
use Rattle.machine_text.specs.declared.table.Sym.{Sym}
use Rattle.law_turing.proofs.Listed.{length-le_of_members}
use Rattle.law_turing.proofs.RunLaws.{table_machine}
use Rattle.kind_evidence.specs.declared.verdicts.Ending.{Ending}
use Rattle.law_tree.specs.Terms.{Halting, Holdout, HaltsOn, IsChild, IsChildTable, InTableTree, children_at, InOrder}
use Rattle.law_tree.proofs.TreeLaws.{tree_machine, tree_holes, child_holes}
use Rattle.law_tree.proofs.TableLaws.{child_map, tree_alike, tree_map, one_table_parent}
use Rattle.law_tree.proofs.ChildTables.{children_bound}
use Rattle.cert.specs.Terms.{Recorded, with_score}
use Rattle.ledger.proofs.BoardLaws.{marked_in_tree, Below, taken_last, taken_settling}
use Rattle.ledger.proofs.OpenLaws.{IsTaken, open_taken, open_in_tree}
use Rattle.leases.specs.Limits.{child_limit}
use Rattle.ledger.proofs.Sets.{all_apart}

-- What a filter keeps, and which leases live.

-- a filter keeps those that pass, and no other
pub filter_member : {X : Type 0} (p : X → Bool) (xs : List X) (x : X) → Contains (filter p xs) x → Contains xs x
filter_member p [] x h = h
filter_member p (y ∷ ys) x h =
    elim (p y) as (λ b. Contains (cond b (y ∷ filter p ys) (filter p ys)) x → Contains (y ∷ ys) x) [
      | true ↦ λ h. elim (first_or_later y (filter p ys) x h) [
        | inl same ↦ first_member y x ys same
        | inr later ↦ later_member y ys x (filter_member p ys x later)
      ]
      | false ↦ λ h. later_member y ys x (filter_member p ys x h)
    ] h

pub in_filter : {X : Type 0} (p : X → Bool) (xs : List X) (x : X) → Contains xs x → p x ≡ true → Contains (filter p xs) x
in_filter p [] x h passes = h
in_filter p (y ∷ ys) x h passes =
    elim (p y) as (λ b. p y ≡ b → Contains (cond b (y ∷ filter p ys) (filter p ys)) x) [
      | true ↦ λ e. elim (first_or_later y ys x h) [
        | inl same ↦ first_member y x (filter p ys) same
        | inr later ↦ later_member y (filter p ys) x (in_filter p ys x later passes)
      ]
      | false ↦ λ e. elim (first_or_later y ys x h) [
        | inl same ↦ let also : p x ≡ false = subst (λ z. p z ≡ false) same e in absurd (cc)
        | inr later ↦ in_filter p ys x later passes
      ]
    ] refl

pub or_later : (a b : Bool) → b ≡ true → (a || b) ≡ true
or_later true b h = refl
or_later false b h = h

-- a lease that lives is one of the leases
pub found_live : (ls : List StoredLease) (n : ℕ) → is_live (map as_lease ls) n ≡ true → (l : StoredLease) × Contains ls l × (l.number ≡ n)
found_live [] n h = absurd (cc)
found_live (l ∷ ls) n h =
    elim (nat_eq l.number n) as (λ b. nat_eq l.number n ≡ b → (b || is_live (map as_lease ls) n) ≡ true → (x : StoredLease) × Contains (l ∷ ls) x × (x.number ≡ n)) [
      | true ↦ λ e h. (l, first_member l l ls refl, eqb-true l.number n e)
      | false ↦ λ e h. let later = found_live ls n h in (later.0, later_member l ls later.0 later.1, later.2)
    ] refl h

pub member_lives : (ls : List StoredLease) (l : StoredLease) → Contains ls l → is_live (map as_lease ls) l.number ≡ true
member_lives [] l h = absurd (omega (arith, h.1))
member_lives (x ∷ xs) l h =
    elim (first_or_later x xs l h) [
      | inl same ↦ ap (λ b. b || is_live (map as_lease xs) l.number) (eq-eqb x.number l.number (ap (λ (l : StoredLease). l.number) same))
      | inr later ↦ or_later (nat_eq x.number l.number) (is_live (map as_lease xs) l.number) (member_lives xs l later)
    ]

-- Heaps of tables in reversed order: what comes in and goes.

-- the members of a list under a map
pub mapped : {X Y : Type 0} (f : X → Y) (xs : List X) (x : X) → Contains xs x → Contains (map f xs) (f x)
mapped f [] x h = absurd (omega (arith, h.1))
mapped f (y ∷ ys) x h =
    elim (first_or_later y ys x h) [
      | inl same ↦ first_member (f y) (f x) (map f ys) (ap f same)
      | inr later ↦ later_member (f y) (map f ys) (f x) (mapped f ys x later)
    ]

pub unmapped : {X Y : Type 0} (f : X → Y) (xs : List X) (y : Y) → Contains (map f xs) y → (x : X) × Contains xs x × (f x ≡ y)
unmapped f [] y h = absurd (omega (arith, h.1))
unmapped f (x ∷ xs) y h =
    elim (first_or_later (f x) (map f xs) y h) [
      | inl same ↦ (x, first_member x x xs refl, same)
      | inr later ↦ let there = unmapped f xs y later in (there.0, later_member x xs there.0 there.1, there.2)
    ]

abbrev bare : List (Reverse Packed) → List Packed
bare rs = map (λ (r : Reverse Packed). r.0) rs

pub gains : (old new : List (Reverse Packed)) (r : Reverse Packed) → IsPermutation (r ∷ old) new → ComesIn (bare old) r.0 (bare new)
gains old new r moved = record {
  here = mapped (λ (r : Reverse Packed). r.0) new r (Contains-permutation (r ∷ old) new r moved (first_member r r old refl));
  others = λ q h.
      let there = unmapped (λ (r : Reverse Packed). r.0) old q h in
      subst (Contains (bare new)) there.2 (mapped (λ (r : Reverse Packed). r.0) new there.0 (Contains-permutation (r ∷ old) new there.0 moved (later_member r old there.0 there.1)));
}

pub loses : (old new : List (Reverse Packed)) (r : Reverse Packed) → IsPermutation old (r ∷ new) → LosesOnly (bare old) r.0 (bare new)
loses old new r moved = λ q h other.
    let there = unmapped (λ (r : Reverse Packed). r.0) old q h in
    elim (first_or_later r new there.0 (Contains-permutation old (r ∷ new) there.0 moved there.1)) [
      | inl same ↦ absurd (other (sym there.2 ∙ ap (λ (r : Reverse Packed). r.0) (sym same)))
      | inr later ↦ subst (Contains (bare new)) there.2 (mapped (λ (r : Reverse Packed). r.0) new there.0 later)
    ]

-- what comes out isn't behind any table
pub is_first : (old : List (Reverse Packed)) (r : Reverse Packed) → IsUpperBound reverse_cmp r old → (q : Packed) → Contains (bare old) q → is_lt (table_cmp q r.0) ≡ false
is_first old r above q h =
    let there = unmapped (λ (r : Reverse Packed). r.0) old q h in
    subst (λ (q : Packed). is_lt (table_cmp q r.0) ≡ false) there.2
    (All-contains (λ (y : Reverse Packed). is_lt (reverse_cmp r y) ≡ false) old there.0 (All-from_recursion (λ (y : Reverse Packed). is_lt (reverse_cmp r y) ≡ false) old above) there.1)

-- the table that stands first was taken out
pub dropped : (old new : List Packed) (t : Packed) (r : Option Packed) → IsOnTop old t → IfSome r (IsOnTop old) → IfSome r (λ x. LosesOnly old x new) → IfNone r (old ≡ []) → LosesOnly old t new
dropped [] new t r top first others none = absurd (omega (arith, top.0))
dropped (y ∷ ys) new t (Some x) top first others none = subst (λ (x : Packed). LosesOnly (y ∷ ys) x new) (first.1 ∙ sym top.1) others
dropped (y ∷ ys) new t None top first others none = absurd (cc)

-- sets of tables: what comes in and goes
is_here : (ks : List Packed) (q : Packed) → Contains ks q → list_any (same_table q) ks ≡ true
is_here [] q h = absurd (omega (arith, h.1))
is_here (x ∷ xs) q h = elim (first_or_later x xs q h) [
  | inl same ↦ ap (λ b. b || list_any (same_table q) xs) (same_at q x (sym same))
  | inr later ↦ or_later (same_table q x) (list_any (same_table q) xs) (is_here xs q later)
]

pub gains_key : (ks : List Packed) (k : Packed) → ComesIn ks k (insert_key same_table ks k)
gains_key ks k = record {
  here = Contains-insert_key same_table same_is ks k;
  others = λ q h. elim (list_any (same_table k) ks) as (λ b. Contains (if b then ks else ks ++ (k ∷ [])) q) [ true ↦ h | false ↦ Contains-append_left ks (k ∷ []) q h ];
}

pub loses_key : (t : Packed) (old new : List Packed) → ((q : Packed) → list_any (same_table q) new ≡ cond (same_table t q) false (list_any (same_table q) old)) → LosesOnly old t new
loses_key t old new goes q h other =
    Contains-list_any same_table same_is new q (goes q ∙ (ap (λ b. cond b false (list_any (same_table q) old)) (not_same t q (λ e. other (sym e))) ∙ is_here old q h))

-- Tables that are put among the free ones, one by one.

-- nothing went
abbrev pub KeepsAll : List Packed → List Packed → Type 0
KeepsAll old new = (q : Packed) → Contains old q → Contains new q

-- the first of the tables are among the free ones
abbrev pub AreFirstIn : List Packed → ℕ → List Packed → Type 0
AreFirstIn tables i free = (k : ℕ) (d : Packed) → k < i → Contains free (get_or tables k d)

pub one_more : (tables : List Packed) (i : ℕ) (t : Packed) (old new : List Packed) → i < length tables → t ≡ get_or tables i t → KeepsAll old new → Contains new t
    → AreFirstIn tables i old → AreFirstIn tables (i + 1) new
one_more tables i t old new below is more here before = λ k d less.
    below_more (λ (k : ℕ). (d : Packed) → Contains new (get_or tables k d)) i (λ k less d. more (get_or tables k d) (before k d less)) (at_read tables (Contains new) i t below is here) k less d

pub all_in : (tables : List Packed) (i : ℕ) (free : List Packed) → length tables ≤ i → AreFirstIn tables i free → (q : Packed) → Contains tables q → Contains free q
all_in tables i free all first q h = subst (Contains free) h.2 (first h.0 q (omega (arith, h.1)))

-- Children of a table: how many they are, and when they are open.

-- the law of the list of a table's children
abbrev pub ChildrenListed : Type 0
ChildrenListed = (p t : Packed) (u k q : ℕ) (s : Sym) → IsTable p → InOrder u (entry_of p) → HaltsOn (entry_of p) k q s → Contains (children_at p q s) t ↔ IsChildTable p t

-- a table has no more children than may be
pub few_children : (t : Packed) (found : List Packed) → ChildrenListed → IsTable t → AreAll (IsChildTable t) found → length found ≤ child_limit
few_children t [] listed table all = omega arith
few_children t (x ∷ xs) listed table all =
    let child = (all.exact x).0 (first_member x x xs refl) in
    let bound = children_bound t child.state child.symbol in
    let states = table.limit in
    let within : All (Contains (children_at t child.state child.symbol)) (x ∷ xs) = all_members (Contains (children_at t child.state child.symbol)) (x ∷ xs)
    (λ q h. (listed t q child.used child.count child.state child.symbol table child.in_order child.halts).1 ((all.exact q).0 h)) in
    let most = length-le_of_members (children_at t child.state child.symbol) (x ∷ xs) within (all_apart (IsChildTable t) (x ∷ xs) all) in
    omega arith

-- no table of a tree has the root as a child
root_is_no_child : (root t : Packed) → IsTable root → InTableTree root t → IsChildTable t root → ⊥
root_is_no_child root t table below child =
    let alike = tree_alike root t table below in
    let map_below = tree_map root t table below in
    let step : IsChild root.states (entry_of t) (entry_of root) = subst (λ n. IsChild n (entry_of t) (entry_of root)) alike.states (child_map t root alike.is_table child) in
    let machine = table_machine root table in
    let fewer = child_holes root.states (entry_of t) (entry_of root) (tree_machine root.states (entry_of root) (entry_of t) machine map_below) step in
    let less = tree_holes root.states (entry_of root) (entry_of t) machine map_below in
    omega arith

-- a child of a table that isn't recorded as halting isn't open
pub not_open_before : (b : Contents) (t q : Packed) → Below → IsBoard b → InTableTree b.root t → ((k : ℕ) → mark_in b.records t ≡ Some (Halting k) → ⊥) → IsChildTable t q → IsOpenOn b q → ⊥
not_open_before b t q below board in_tree unhalted child is_open =
    elim is_open.place [
      | inl e ↦ root_is_no_child b.root t board.is_table in_tree (subst (IsChildTable t) e child)
      | inr w ↦
          let same : w.0 ≡ t = one_table_parent b.root w.0 t q board.is_table (marked_in_tree b w.0 (Halting w.1) below board w.2) in_tree w.3 child in
          unhalted w.1 (subst (λ (p : Packed). mark_in b.records p ≡ Some (Halting w.1)) same w.2)
    ]

-- how a record of a table changes which tables are open: they stay, but for the table itself, and some of its children come,
-- none of which was open
pub record Opens (old new : Contents) (t : Packed) : Type 0 where
  pub cases : (q : Packed) → IsOpenOn new q → (IsOpenOn old q × (q ≡ t → ⊥)) ⊎ (IsChildTable t q × IsHalting new.records t)
  pub stays : (q : Packed) → IsOpenOn old q → (q ≡ t → ⊥) → IsOpenOn new q
  pub not_before : (q : Packed) → IsChildTable t q → IsOpenOn old q → ⊥

opens_by : (b : Contents) (new : List Recorded) (r : Recorded) → Below → IsBoard b → InTableTree b.root r.table → ((k : ℕ) → mark_in b.records r.table ≡ Some (Halting k) → ⊥) → IsTaken b.records new r
    → Opens b (record { root = b.root; records = new; format = b.format }) r.table
opens_by b new r below board in_tree unhalted taken = record {
  cases = λ q h. elim ((open_taken b.root b.records new r q taken).0 h) [
    | inl u ↦ inl u
    | inr u ↦ inr (u.child, (u.count, ap (option_map mark_of) taken.here ∙ ap (λ (o : Option Ending). Some (mark_by o)) u.halts))
  ];
  stays = λ q h other. (open_taken b.root b.records new r q taken).1 (inl (h, other));
  not_before = λ q child is_open. not_open_before b r.table q below board in_tree unhalted child is_open;
}

pub opens_new : (old new : Contents) (r : Recorded) → Below → IsBoard old → new.root ≡ old.root → new.format ≡ old.format → IsFit old.root old.records r → new.records ≡ old.records ++ (with_score r ∷ []) → Opens old new r.table
opens_new old new r below board root format fit is =
    let held = with_score r in
    let same : new ≡ record { root = old.root; records = old.records ++ (held ∷ []); format = old.format } = λ i. record { root = root i; records = is i; format = format i } in
    subst (λ (b : Contents). Opens old b r.table) (sym same)
    (opens_by old (old.records ++ (held ∷ [])) held below board (open_in_tree old.root old.records r.table below board.held fit.is_open) (λ k marked. let none = fit.is_open.unmarked in absurd (cc)) (taken_last old.records held old.root fit.is_open))

pub opens_settled : (old new : Contents) (r : Recorded) → Below → IsBoard old → new.root ≡ old.root → new.format ≡ old.format → Resolves old.records r → new.records ≡ resolved old.records (with_score r) → Opens old new r.table
opens_settled old new r below board root format settles is =
    let held = with_score r in
    let same : new ≡ record { root = old.root; records = resolved old.records held; format = old.format } = λ i. record { root = root i; records = is i; format = format i } in
    let holdout : mark_in old.records r.table ≡ Some Holdout = settles.is_holdout in
    subst (λ (b : Contents). Opens old b r.table) (sym same)
    (opens_by old (resolved old.records held) held below board (marked_in_tree old r.table Holdout below board holdout) (λ k marked. absurd (cc)) (taken_settling old.records held holdout))

pub if_few : (t : Packed) (found : Option (List Packed)) → ChildrenListed → IsTable t → IfSome found (AreAll (IsChildTable t)) → IfSome found (λ found. length found ≤ child_limit)
if_few t None listed table all = tt
if_few t (Some found) listed table all = few_children t found listed table all
