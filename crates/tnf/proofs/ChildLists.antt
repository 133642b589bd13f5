-- The entries that are left, from one on, give a table's children at a pair, and no others.
use Rattle.std.proofs.Common.{◌≡◌, ℕ, suc, ◌+◌, ◌-◌, ◌<◌, Option, [], ◌∷◌, ◌++◌, map, Some, None, refl, sym, ◌∙◌, ap, subst, arith, ◌*◌, ◌≤◌, List, append_assoc, ◌↔◌, length, get_or, inl, inr}
use Rattle.std.proofs.lemmas.List.{append-nil, get_or-map, length-map}
use Rattle.std.specs.List.{range_with_len, Contains}
use Prim.Native.Nat.{min}
use Rattle.std.proofs.lemmas.Bool.{cases_lt}
use Rattle.std.proofs.lemmas.List.Elements.{Contains-get_or}
use Rattle.machine_text.specs.declared.table.Sym.{Sym}
use Rattle.machine_text.specs.declared.table.Sym.TheVariants.{Zero, One}
use Rattle.machine_text.specs.declared.table.Dir.{Dir}
use Rattle.machine_text.specs.declared.table.Dir.TheVariants.{L, R}
use Rattle.machine_text.specs.declared.table.Entry.{Entry}
use Rattle.law_tree.specs.Terms.{entries_to, used_count, child_entries, children_at, InOrder, IsChildEntry}
use Rattle.machine_text.specs.Terms.{Packed, with_entry, entry_of, holes, IsTable}
use Rattle.tnf.specs.inside.{entries_after, entries_left, tables_left}
use Rattle.law_turing.specs.Terms.{Machine}
use Rattle.law_tree.proofs.ChildEntries.{list_empty, list_filled, listed_is_entry, entry_is_listed}
use Rattle.law_tree.proofs.ChildTables.{some_children, no_children, entries_of}
use Rattle.law_turing.proofs.RunLaws.{table_machine}
use Rattle.law_tree.proofs.Used.{used_number}
use Rattle.tnf.specs.Children.{IsChildAt}

-- The entries that are left, from one on: the first of them, and those from the entry after it.

-- the entry to a state
abbrev pub to : Sym → Dir → ℕ → Entry
to w d q = record { write = w; dir = d; next = record { 0 = q } }

-- the last number below t is one list, and an earlier one comes before those that follow it
range_next : (q t : ℕ) → q < t → range_with_len q (t - q) ≡ q ∷ range_with_len (q + 1) (t - (q + 1))
range_next q t lt = let more : t - q ≡ suc (t - (q + 1)) = omega arith in ap (range_with_len q) more

range_last : (q t : ℕ) → q + 1 ≡ t → range_with_len q (t - q) ≡ q ∷ []
range_last q t last = let one : t - q ≡ 1 = omega arith in ap (range_with_len q) one

-- the next target
pub target_after : (t : ℕ) (first : Dir) (e : Entry) → e.next.0 < t →
    entries_left t first (Some e) ≡ e ∷ entries_left t first (Some (to e.write e.dir (e.next.0 + 1)))
unfolding entries_left
target_after t first e lt = ap (λ qs. map (to e.write e.dir) qs ++ entries_after t first e.write e.dir) (range_next e.next.0 t lt)

-- after the last target come the entries with another move
last_target : (t : ℕ) (first : Dir) (w : Sym) (d : Dir) (q : ℕ) → q + 1 ≡ t → entries_left t first (Some (to w d q)) ≡ to w d q ∷ entries_after t first w d
unfolding entries_left
last_target t first w d q last = ap (λ qs. map (to w d) qs ++ entries_after t first w d) (range_last q t last)

-- from state 0 on there are all of one move
pub from_start : (t : ℕ) (first : Dir) (w : Sym) (d : Dir) → entries_left t first (Some (to w d 0)) ≡ entries_to t w d ++ entries_after t first w d
unfolding entries_left
from_start t first w d = let all : t - 0 ≡ t = omega arith in ap (λ n. map (to w d) (range_with_len 0 n) ++ entries_after t first w d) all

pub none_left : (t : ℕ) (first : Dir) → entries_left t first None ≡ []
unfolding entries_left
none_left t first = refl

-- after those to the left come those to the right
right_after_left : (t : ℕ) (first : Dir) (w : Sym) (q : ℕ) → q + 1 ≡ t →
    entries_left t first (Some (to w L q)) ≡ to w L q ∷ entries_left t first (Some (to w R 0))
right_after_left t first Zero q last = last_target t first Zero L q last ∙ ap (λ es. to Zero L q ∷ es) (sym (from_start t first Zero R))
right_after_left t first One q last = last_target t first One L q last ∙ ap (λ es. to One L q ∷ es) (sym (from_start t first One R ∙ append-nil (entries_to t One R)))

pub turned : (t : ℕ) (first : Dir) (e : Entry) → e.next.0 + 1 ≡ t → e.dir ≡ L →
    entries_left t first (Some e) ≡ e ∷ entries_left t first (Some (to e.write R 0))
turned t first e last left =
    subst (λ d. entries_left t first (Some (to e.write d e.next.0)) ≡ to e.write d e.next.0 ∷ entries_left t first (Some (to e.write R 0)))
    (sym left) (right_after_left t first e.write e.next.0 last)

-- an entry by its parts
is_to : (e : Entry) (w : Sym) (d : Dir) → e.write ≡ w → e.dir ≡ d → e ≡ to w d e.next.0
is_to e w d write dir = λ i. to (write i) (dir i) e.next.0

-- after those that write 0 come those that write 1
pub ones_after_zeros : (t : ℕ) (first : Dir) (e : Entry) → e.next.0 + 1 ≡ t → e.write ≡ Zero → e.dir ≡ R →
    entries_left t first (Some e) ≡ e ∷ entries_left t first (Some (to One first 0))
ones_after_zeros t first e last zero right =
    subst (λ x. entries_left t first (Some x) ≡ x ∷ entries_left t first (Some (to One first 0))) (sym (is_to e Zero R zero right))
    (last_target t first Zero R e.next.0 last ∙ ap (λ es. to Zero R e.next.0 ∷ es) (sym (from_start t first One first)))

-- the last entry of all
pub none_after_ones : (t : ℕ) (first : Dir) (e : Entry) → e.next.0 + 1 ≡ t → e.write ≡ One → e.dir ≡ R →
    entries_left t first (Some e) ≡ e ∷ entries_left t first None
none_after_ones t first e last one right =
    subst (λ x. entries_left t first (Some x) ≡ x ∷ entries_left t first None) (sym (is_to e One R one right))
    (last_target t first One R e.next.0 last ∙ ap (λ es. to One R e.next.0 ∷ es) (sym (none_left t first)))

-- so the first table that is left has the first entry
pub first_left : (p : Packed) (q : ℕ) (s : Sym) (t : ℕ) (first : Dir) (next after : Option Entry) (e : Entry) (child : Packed) → next ≡ Some e → child ≡ with_entry p q s e →
    entries_left t first (Some e) ≡ e ∷ entries_left t first after → tables_left p q s t first next ≡ child ∷ tables_left p q s t first after
unfolding tables_left
first_left p q s t first next after e child is filled left =
    ap (λ o. map (with_entry p q s) (entries_left t first o)) is ∙ ap (map (with_entry p q s)) left ∙ ap (λ x. x ∷ map (with_entry p q s) (entries_left t first after)) (sym filled)

pub no_tables_left : (p : Packed) (q : ℕ) (s : Sym) (t : ℕ) (first : Dir) (next : Option Entry) → next ≡ None → tables_left p q s t first next ≡ []
unfolding tables_left
no_tables_left p q s t first next is = ap (λ o. map (with_entry p q s) (entries_left t first o)) is ∙ ap (map (with_entry p q s)) (none_left t first)

-- The children of a table begin with those that write 0, to the left, or to the right where it is empty.

-- all entries of children are left
right_left : (n u : ℕ) (m : Machine) → holes n m ≡ 2 * n → entries_left (min n (u + 1)) R (Some (to Zero R 0)) ≡ child_entries n u m
right_left n u m all =
    let t = min n (u + 1) in
    from_start t R Zero R ∙ ap (λ es. entries_to t Zero R ++ es) (append-nil (entries_to t One R)) ∙ sym (list_empty n u m all)

both_left : (n u : ℕ) (m : Machine) → (holes n m ≡ 2 * n → ⊥) → entries_left (min n (u + 1)) L (Some (to Zero L 0)) ≡ child_entries n u m
both_left n u m some =
    let t = min n (u + 1) in
    from_start t L Zero L ∙ sym (append_assoc (entries_to t Zero L) (entries_to t Zero R) (entries_to t One L ++ entries_to t One R)) ∙ sym (list_filled n u m some)

-- all children are left
pub empty_children : (p : Packed) (q : ℕ) (s : Sym) → 2 ≤ holes p.states (entry_of p) → holes p.states (entry_of p) ≡ 2 * p.states →
    tables_left p q s (min p.states (used_count p.states (entry_of p) + 1)) R (Some (to Zero R 0)) ≡ children_at p q s
unfolding tables_left
empty_children p q s two all =
    ap (map (with_entry p q s)) (right_left p.states (used_count p.states (entry_of p)) (entry_of p) all) ∙ sym (some_children p q s two)

pub filled_children : (p : Packed) (q : ℕ) (s : Sym) → 2 ≤ holes p.states (entry_of p) → (holes p.states (entry_of p) ≡ 2 * p.states → ⊥) →
    tables_left p q s (min p.states (used_count p.states (entry_of p) + 1)) L (Some (to Zero L 0)) ≡ children_at p q s
unfolding tables_left
filled_children p q s two some =
    ap (map (with_entry p q s)) (both_left p.states (used_count p.states (entry_of p)) (entry_of p) some) ∙ sym (some_children p q s two)

-- and none where there are none
pub without_children : (p : Packed) (q : ℕ) (s : Sym) (t : ℕ) (d : Dir) → holes p.states (entry_of p) < 2 → tables_left p q s t d None ≡ children_at p q s
unfolding tables_left
without_children p q s t d few = ap (map (with_entry p q s)) (none_left t d) ∙ sym (no_children p q s few)

-- equal parts: equal tables
pub by_parts : (p : Packed) (q : ℕ) (s : Sym) (t u : ℕ) (d e : Dir) (next first : Option Entry) (children : List Packed) →
    t ≡ u → d ≡ e → next ≡ first → tables_left p q s u e first ≡ children → tables_left p q s t d next ≡ children
by_parts p q s t u d e next first children targets directions entries are =
    ap (λ x. tables_left p q s x d next) targets ∙ ap (λ x. tables_left p q s u x next) directions ∙ ap (tables_left p q s u e) entries ∙ are

-- The list of a table's children at a pair has exactly the children there.

-- members of a mapped list
from_map : {X Y : Type 0} (f : X → Y) (xs : List X) (y : Y) → Contains (map f xs) y → (x : X) × Contains xs x × (f x ≡ y)
from_map f [] y c = absurd (omega (arith, c.1))
from_map f (x ∷ xs) y c =
    let lt : c.0 < length (x ∷ xs) = omega (arith, c.1, length-map (x ∷ xs) f) in
    (get_or (x ∷ xs) c.0 x, Contains-get_or (x ∷ xs) c.0 x lt, sym (get_or-map f (x ∷ xs) c.0 x y lt) ∙ c.2)

into_map : {X Y : Type 0} (f : X → Y) (xs : List X) (x : X) → Contains xs x → Contains (map f xs) (f x)
into_map f xs x c = (c.0, omega (arith, c.1, length-map xs f), get_or-map f xs c.0 x (f x) c.1 ∙ ap f c.2)

module _ (p : Packed) (u q : ℕ) (s : Sym) (i : IsTable p) (o : InOrder u (entry_of p)) where
  number : used_count p.states (entry_of p) ≡ u
  number = used_number p.states u (entry_of p) (table_machine p i) o

  entry_listed : (e : Entry) → Contains (entries_of p) e → IsChildEntry p.states u (entry_of p) e
  entry_listed e c = subst (λ v. IsChildEntry p.states v (entry_of p) e) number (listed_is_entry p.states (used_count p.states (entry_of p)) (entry_of p) e (table_machine p i) c)

  listed_entry : (e : Entry) → IsChildEntry p.states u (entry_of p) e → Contains (entries_of p) e
  listed_entry e x = entry_is_listed p.states (used_count p.states (entry_of p)) (entry_of p) e (table_machine p i) (subst (λ v. IsChildEntry p.states v (entry_of p) e) (sym number) x)

  from_list : (t : Packed) → Contains (children_at p q s) t → IsChildAt p u q s t
  from_list t c = elim (cases_lt (holes p.states (entry_of p)) 2) [
    | inl few ↦ (
        let none : Contains [] t = subst (λ (ts : List Packed). Contains ts t) (no_children p q s few) c in
        absurd (omega (arith, none.1)))
    | inr two ↦ (
        let (e, there, is) = from_map (with_entry p q s) (entries_of p) t (subst (λ (ts : List Packed). Contains ts t) (some_children p q s two) c) in
        record { undefined = two; entry = e; is_entry = entry_listed e there; is = sym is })
  ]

  into_list : (t : Packed) → IsChildAt p u q s t → Contains (children_at p q s) t
  into_list t x =
      subst (λ (ts : List Packed). Contains ts t) (sym (some_children p q s x.undefined))
      (subst (Contains (map (with_entry p q s) (entries_of p))) (sym x.is) (into_map (with_entry p q s) (entries_of p) x.entry (listed_entry x.entry x.is_entry)))

  pub children_members : (t : Packed) → Contains (children_at p q s) t ↔ IsChildAt p u q s t
  children_members t = (from_list t, into_list t)
