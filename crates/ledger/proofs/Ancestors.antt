-- The chain of the places of a record's ancestors, and a change that is carried up it.
use Rattle.std.proofs.Common.{◌≡◌, ℕ, zero, suc, ◌+◌, ◌<◌, ◌≤◌, ◌^◌, List, Some, None, Option, option_map, inl, inr, ◌⊎◌, refl, sym, ◌∙◌, ap, subst, arith, Fits, w32, map, ◌%◌, [], ◌∷◌, length}
use Rattle.std.specs.Prelude.{slice_get}
use Rattle.std.proofs.lemmas.Option.{same_Some, slice_get-map, slice_get_within}
use Rattle.std.proofs.lemmas.Bool.{cases_lt}
use Rattle.machine_text.specs.Terms.{Packed, IsTable, entry_of, holes}
use Rattle.law_turing.proofs.RunLaws.{table_machine}
use Rattle.law_tree.specs.Terms.{IsChildTable, InTableTree, Itself, OfChild}
use Rattle.law_tree.proofs.TableLaws.{child_alike, child_map, tree_alike, tree_table_child, one_table_parent}
use Rattle.law_tree.proofs.TreeLaws.{child_holes}
use Rattle.cert.specs.Terms.{Recorded}
use Rattle.ledger.specs.inside.Stored.{entry_recorded, records_of}
use Rattle.ledger.specs.inside.Counting.{no_place}
use Rattle.ledger.specs.inside.Trees.{OnChain, Here, Above, AreParented, counting, changed_count, MayChange, AreEarlier, ChainMayChange, AreChanged}
use Rattle.ledger.specs.declared.stored_record.StoredRecord.{StoredRecord}
use Rattle.indexmap.specs.IndexMap.{set_value_at}
use Rattle.ledger.specs.declared.tree_count.TreeChange.{TreeChange}

-- The chain of a record's place is that of the recorded tables in whose tree its own stands.

-- a child has one undefined pair less than its parent, so a table of a tree has no more than the root
pub fewer_holes : (p t : Packed) → IsTable p → IsChildTable p t → holes t.states (entry_of t) < holes p.states (entry_of p)
fewer_holes p t is_table child =
    let less = child_holes p.states (entry_of p) (entry_of t) (table_machine p is_table) (child_map p t is_table child) in
    let states : t.states ≡ p.states = (child_alike p t is_table child).states in
    subst (λ (n : ℕ). holes n (entry_of t) < holes p.states (entry_of p)) (sym states) (omega (arith, less))

no_more_holes : (p t : Packed) → IsTable p → InTableTree p t → holes t.states (entry_of t) ≤ holes p.states (entry_of p)
no_more_holes p t is_table Itself = omega arith
no_more_holes p t is_table (OfChild {c} child inside) =
    let less = fewer_holes p c is_table child in
    let rest = no_more_holes c t (child_alike p c is_table child).is_table inside in
    omega (arith, less, rest)

-- no table is a child of one of its own tree
pub no_way_up : (p t : Packed) → IsTable p → InTableTree p t → IsChildTable t p → ⊥
no_way_up p t is_table inside child =
    let less = fewer_holes t p (tree_alike p t is_table inside).is_table child in
    let most = no_more_holes p t is_table inside in
    omega (arith, less, most)

-- a table of a tree is its root, or the child of a table of it
pub last_step : (p t : Packed) → InTableTree p t → (p ≡ t) ⊎ ((q : Packed) × InTableTree p q × IsChildTable q t)
last_step p t Itself = inl refl
last_step p t (OfChild {c} child inside) = elim (last_step c t inside) [
  | inl same ↦ inr (p, Itself, subst (IsChildTable p) same child)
  | inr w ↦ inr (w.0, OfChild child w.1, w.2)
]

pub tree_twice : (p q t : Packed) → InTableTree p q → InTableTree q t → InTableTree p t
tree_twice p q t Itself below = below
tree_twice p q t (OfChild {c} child inside) below = OfChild child (tree_twice c q t inside below)

-- the entry of a record
some_entry : (o : Option (Packed × StoredRecord)) (r : Recorded) → option_map entry_recorded o ≡ Some r → (e : Packed × StoredRecord) × (o ≡ Some e) × (entry_recorded e ≡ r)
some_entry None r is = cc
some_entry (Some e) r is = (e, refl, same_Some (entry_recorded e) r is)

pub entry_of_record : (es : List (Packed × StoredRecord)) (i : ℕ) (r : Recorded) → slice_get (records_of es) i ≡ Some r → (e : Packed × StoredRecord) × (slice_get es i ≡ Some e) × (entry_recorded e ≡ r)
entry_of_record es i r at = some_entry (slice_get es i) r (sym (slice_get-map entry_recorded es i) ∙ at)

none_above : (es : List (Packed × StoredRecord)) (i : ℕ) → OnChain es no_place i → ⊥
none_above es i (Here small) = omega (arith, small)
none_above es i (Above small at on) = omega (arith, small)

-- each table once, all of them in the tree of the root
abbrev pub AreOnce : List (Packed × StoredRecord) → Type 0
AreOnce es = (i j : ℕ) (e f : Packed × StoredRecord) → slice_get es i ≡ Some e → slice_get es j ≡ Some f → e.0 ≡ f.0 → i ≡ j

abbrev pub AreBelow : Packed → List (Packed × StoredRecord) → Type 0
AreBelow root es = (i : ℕ) (e : Packed × StoredRecord) → slice_get es i ≡ Some e → InTableTree root e.0

module _ (root : Packed) (es : List (Packed × StoredRecord)) (is_table : IsTable root) (parents : AreParented root es) (below : AreBelow root es) (once : AreOnce es) where
  pub chain_above : (place i : ℕ) (e f : Packed × StoredRecord) → OnChain es place i → slice_get es place ≡ Some e → slice_get es i ≡ Some f → InTableTree f.0 e.0
  chain_above place i e f (Here small) at there = let same : e ≡ f = same_Some e f (sym at ∙ there) in subst (λ (x : Packed × StoredRecord). InTableTree f.0 x.0) (sym same) Itself
  chain_above place i e f (Above {e = x} small above on) at there =
      let same : x ≡ e = same_Some x e (sym above ∙ at) in
      elim (parents place x above) [
        | inl top ↦ absurd (none_above es i (subst (λ p. OnChain es p i) top.1 on))
        | inr w ↦
            let g = entry_of_record es x.1.parent w.1.0 w.1.1 in
            let table : g.0.0 ≡ w.1.0.table = ap (λ (r : Recorded). r.table) g.2 in
            let under = chain_above x.1.parent i g.0 f on g.1 there in
            let child : IsChildTable g.0.0 e.0 = subst (λ (p : Packed). IsChildTable p e.0) (sym table) (subst (λ (y : Packed × StoredRecord). IsChildTable w.1.0.table y.0) same w.1.3) in
            tree_table_child f.0 g.0.0 e.0 under child
      ]

  pub above_chain : (n place i : ℕ) (e f : Packed × StoredRecord) → place < n → place + 1 < 2 ^ 32 → slice_get es place ≡ Some e → slice_get es i ≡ Some f → InTableTree f.0 e.0 → OnChain es place i
  above_chain zero place i e f bound small at there inside = absurd (omega (arith, bound))
  above_chain (suc n) place i e f bound small at there inside = elim (last_step f.0 e.0 inside) [
    | inl same ↦ subst (OnChain es place) (once place i e f at there (sym same)) (Here small)
    | inr w ↦
        let in_root : InTableTree root w.0 = tree_twice root f.0 w.0 (below i f there) w.1 in
        elim (parents place e at) [
          | inl top ↦ absurd (no_way_up root w.0 is_table in_root (subst (IsChildTable w.0) top.0 w.2))
          | inr v ↦
              let g = entry_of_record es e.1.parent v.1.0 v.1.1 in
              let table : g.0.0 ≡ v.1.0.table = ap (λ (r : Recorded). r.table) g.2 in
              let child : IsChildTable g.0.0 e.0 = subst (λ (p : Packed). IsChildTable p e.0) (sym table) v.1.3 in
              let same : w.0 ≡ g.0.0 = one_table_parent root w.0 g.0.0 e.0 is_table in_root (below e.1.parent g.0 g.1) w.2 child in
              let less = v.0 in
              Above small at (above_chain n e.1.parent i g.0 f (omega (arith, less, bound)) (omega (arith, less, small)) g.1 there (subst (InTableTree f.0) same w.1))
        ]
  ]

-- A change carried up the chain of the places of parents.

-- an entry before the walk and now: it is past, or it isn't, and stands on the chain only where it stands on what is left
abbrev pub IsWalked : TreeChange → List (Packed × StoredRecord) → ℕ → ℕ → ℕ → Packed × StoredRecord → Packed × StoredRecord → Type 0
IsWalked c es from place i e now =
    (OnChain es from i × (now ≡ counting c e) × (place + 1 < 2 ^ 32 → place < i))
    ⊎ ((now ≡ e) × (OnChain es from i → OnChain es place i))

abbrev pub AreWalked : TreeChange → List (Packed × StoredRecord) → ℕ → ℕ → List (Packed × StoredRecord) → Type 0
AreWalked c es from place new = (i : ℕ) (now : Packed × StoredRecord) → slice_get new i ≡ Some now → (e : Packed × StoredRecord) × (slice_get es i ≡ Some e) × IsWalked c es from place i e now

pub none_walked : (c : TreeChange) (es : List (Packed × StoredRecord)) (from : ℕ) → AreWalked c es from from es
none_walked c es from = λ i now at. (now, at, inr (refl, λ on. on))

-- a written entry, and the others
written_at : (es : List (Packed × StoredRecord)) (i : ℕ) (k : StoredRecord) (e now : Packed × StoredRecord) → slice_get es i ≡ Some e → slice_get (set_value_at es i k) i ≡ Some now → now ≡ (e.0, k)
written_at [] i k e now at is = absurd (cc)
written_at (x ∷ xs) zero k e now at is = let same : x ≡ e = same_Some x e at in sym (same_Some (x.0, k) now is) ∙ ap (λ (y : Packed × StoredRecord). (y.0, k)) same
written_at (x ∷ xs) (suc i) k e now at is = written_at xs i k e now at is

written_other : (es : List (Packed × StoredRecord)) (i j : ℕ) (k : StoredRecord) (now : Packed × StoredRecord) → (i ≡ j → ⊥) → slice_get (set_value_at es i k) j ≡ Some now → slice_get es j ≡ Some now
written_other [] i j k now other is = is
written_other (x ∷ xs) zero zero k now other is = absurd (other refl)
written_other (x ∷ xs) zero (suc j) k now other is = is
written_other (x ∷ xs) (suc i) zero k now other is = is
written_other (x ∷ xs) (suc i) (suc j) k now other is = written_other xs i j k now (λ same. other (ap suc same)) is

lower : (parent i : ℕ) → (parent ≡ no_place) ⊎ (parent < i) → parent + 1 < 2 ^ 32 → parent < i
lower parent i (inl none) more = omega (arith, none, more)
lower parent i (inr less) more = less

-- the chain goes on from each of its places
pub chain_on : (es : List (Packed × StoredRecord)) (from place : ℕ) (e : Packed × StoredRecord) → OnChain es from place → slice_get es place ≡ Some e → e.1.parent + 1 < 2 ^ 32 → OnChain es from e.1.parent
chain_on es from place e (Here small) at more = Above small at (Here more)
chain_on es from place e (Above {e = x} small above on) at more = Above small above (chain_on es x.1.parent place e on at more)

-- from a place on the chain is that place and what is above
above_place : (es : List (Packed × StoredRecord)) (place i : ℕ) (e : Packed × StoredRecord) → OnChain es place i → slice_get es place ≡ Some e → (place ≡ i → ⊥) → OnChain es e.1.parent i
above_place es place i e (Here small) at other = absurd (other refl)
above_place es place i e (Above {e = x} small above on) at other = subst (λ (y : Packed × StoredRecord). OnChain es y.1.parent i) (same_Some x e (sym above ∙ at)) on

no_chain : (es : List (Packed × StoredRecord)) (place i : ℕ) → 2 ^ 32 ≤ place + 1 → OnChain es place i → ⊥
no_chain es place i large (Here small) = omega (arith, large, small)
no_chain es place i large (Above small above on) = omega (arith, large, small)

-- a place that is reached is as it was
pub not_walked : (c : TreeChange) (es new : List (Packed × StoredRecord)) (from place : ℕ) (now : Packed × StoredRecord) → AreWalked c es from place new → place + 1 < 2 ^ 32 → slice_get new place ≡ Some now
    → slice_get es place ≡ Some now
not_walked c es new from place now walked small at =
    let w = walked place now at in
    elim w.2 [
      | inl past ↦ let less = past.2 small in absurd (omega (arith, less))
      | inr waits ↦ w.1 ∙ ap (λ (e : Packed × StoredRecord). Some e) (sym waits.0)
    ]

-- one place more
pub one_walked : (c : TreeChange) (es new : List (Packed × StoredRecord)) (from place : ℕ) (e : Packed × StoredRecord) (k : StoredRecord) → AreEarlier es → AreWalked c es from place new → place + 1 < 2 ^ 32 → OnChain es from place
    → slice_get new place ≡ Some e → (e.0, k) ≡ counting c e → AreWalked c es from e.1.parent (set_value_at new place k)
one_walked c es new from place e k earlier walked small on at is = λ i now there.
    let old = not_walked c es new from place e walked small at in
    elim (by_cases place i) [
      | inl same ↦
          let here : slice_get (set_value_at new place k) place ≡ Some now = subst (λ j. slice_get (set_value_at new place k) j ≡ Some now) (sym same) there in (
            e,
            subst (λ j. slice_get es j ≡ Some e) same old,
            inl (subst (OnChain es from) same on, written_at new place k e now at here ∙ is, λ more. let less = lower e.1.parent place (earlier place e old) more in omega (arith, less, same)),
          )
      | inr other ↦
          let w = walked i now (written_other new place i k now other there) in (
            w.0,
            w.1,
            elim w.2 [
              | inl past ↦ inl (past.0, past.1, λ more. let less = lower e.1.parent place (earlier place e old) more in let later = past.2 small in omega (arith, less, later))
              | inr waits ↦ inr (waits.0, λ up. above_place es place i e (waits.1 up) old other)
            ],
          )
    ]
  where
    by_cases : (a b : ℕ) → (a ≡ b) ⊎ (a ≡ b → ⊥)
    by_cases a b = elim (cases_lt a b) [
      | inl less ↦ inr (λ same. omega (arith, less, same))
      | inr more ↦ elim (cases_lt b a) [ inl less ↦ inr (λ same. omega (arith, less, same)) | inr least ↦ inl (omega (arith, more, least)) ]
    ]

-- at the end all are
pub all_walked : (c : TreeChange) (es new : List (Packed × StoredRecord)) (from place : ℕ) → AreWalked c es from place new → 2 ^ 32 ≤ place + 1 → AreChanged c es from new
all_walked c es new from place walked large = λ i now at.
    let w = walked i now at in (
      w.0,
      w.1,
      elim w.2 [
        | inl past ↦ inl (past.0, past.1)
        | inr waits ↦ inr (λ on. no_chain es place i large (waits.1 on), waits.0)
      ],
    )

-- the entry of a value
pub entry_at : (es : List (Packed × StoredRecord)) (i : ℕ) (k : StoredRecord) → Some k ≡ slice_get (map (λ (e : Packed × StoredRecord). e.1) es) i → (e : Packed × StoredRecord) × (slice_get es i ≡ Some e) × (e.1 ≡ k)
entry_at [] i k is = absurd (cc)
entry_at (x ∷ xs) zero k is = (x, refl, sym (same_Some k x.1 is))
entry_at (x ∷ xs) (suc i) k is = entry_at xs i k is

-- what a turn of the loop is about
pub record IsReached (c : TreeChange) (es new : List (Packed × StoredRecord)) (from place : ℕ) (k : StoredRecord) : Type 0 where
  pub small : place + 1 < 2 ^ 32
  pub entry : Packed × StoredRecord
  pub now : slice_get new place ≡ Some entry
  pub old : slice_get es place ≡ Some entry
  pub value : entry.1 ≡ k
  pub on : OnChain es from place

pub reached : (c : TreeChange) (es new : List (Packed × StoredRecord)) (from place : ℕ) (k : StoredRecord) → AreWalked c es from place new → (place + 1 < 2 ^ 32 → OnChain es from place × (place < length es))
    → Fits w32 place → (place ≡ 4294967295 → ⊥) → Some k ≡ slice_get (map (λ (e : Packed × StoredRecord). e.1) new) place → IsReached c es new from place k
reached c es new from place k walked there fits other is =
    let small : place + 1 < 2 ^ 32 = below_last place fits other in
    let w = entry_at new place k is in
    record { small = small; entry = w.0; now = w.1; old = not_walked c es new from place w.0 walked small w.1; value = w.2; on = (there small).0 }
  where
    below_last : (n : ℕ) → Fits w32 n → (n ≡ 4294967295 → ⊥) → n + 1 < 2 ^ 32
    below_last n fits other = elim (cases_lt n 4294967295) [ inl less ↦ omega (arith, less) | inr more ↦ absurd (other (omega (arith, more, fits))) ]

pub reached_room : (c : TreeChange) (es new : List (Packed × StoredRecord)) (from place : ℕ) (k : StoredRecord) → IsReached c es new from place k → ChainMayChange es from c → MayChange k.tree c
reached_room c es new from place k at fits = subst (λ (x : StoredRecord). MayChange x.tree c) at.value (fits place at.entry at.on at.old)

pub reached_lower : (c : TreeChange) (es new : List (Packed × StoredRecord)) (from place : ℕ) (k : StoredRecord) → IsReached c es new from place k → AreEarlier es → (k.parent ≡ no_place) ⊎ (k.parent < place)
reached_lower c es new from place k at earlier = subst (λ p. (p ≡ no_place) ⊎ (p < place)) (ap (λ (x : StoredRecord). x.parent) at.value) (earlier place at.entry at.old)

-- so the places fall, as the loop's measure counts them
pub falls : (parent place : ℕ) → place + 1 < 2 ^ 32 → (parent ≡ no_place) ⊎ (parent < place) → (parent + 1) % 4294967296 < (place + 1) % 4294967296
falls parent place small (inl none) = omega (arith, none, small)
falls parent place small (inr less) = omega (arith, less, small)

pub reached_there : (c : TreeChange) (es new : List (Packed × StoredRecord)) (from place : ℕ) (k : StoredRecord) → IsReached c es new from place k → AreEarlier es → k.parent + 1 < 2 ^ 32
    → OnChain es from k.parent × (k.parent < length es)
reached_there c es new from place k at earlier more =
    let parent : at.entry.1.parent ≡ k.parent = ap (λ (x : StoredRecord). x.parent) at.value in (
      subst (OnChain es from) parent (chain_on es from place at.entry at.on at.old (omega (arith, more, parent))),
      let less = lower k.parent place (reached_lower c es new from place k at earlier) more in let within = slice_get_within es place at.entry at.old in omega (arith, less, within),
    )

pub reached_walked : (c : TreeChange) (es new : List (Packed × StoredRecord)) (from place parent : ℕ) (k now : StoredRecord) → IsReached c es new from place k → AreEarlier es → AreWalked c es from place new
    → now ≡ record k { tree = changed_count c k.tree } → parent ≡ k.parent → AreWalked c es from parent (set_value_at new place now)
reached_walked c es new from place parent k now at earlier walked is above =
    let same : (at.entry.0, now) ≡ counting c at.entry =
    ap (λ (x : StoredRecord). (at.entry.0, x)) is ∙ ap (λ (x : StoredRecord). (at.entry.0, record x { tree = changed_count c x.tree })) (sym at.value) in
    subst (λ p. AreWalked c es from p (set_value_at new place now)) (ap (λ (x : StoredRecord). x.parent) at.value ∙ sym above)
    (one_walked c es new from place at.entry now earlier walked at.small at.on at.now same)

pub as_long : (es : List (Packed × StoredRecord)) (i : ℕ) (k : StoredRecord) → length (set_value_at es i k) ≡ length es
as_long [] i k = refl
as_long (x ∷ xs) zero k = refl
as_long (x ∷ xs) (suc i) k = ap suc (as_long xs i k)

pub last_place : (place : ℕ) → place ≡ 4294967295 → 2 ^ 32 ≤ place + 1
last_place place is = omega (arith, is)
