-- Rising lists that hold what second-automaton states ask for describe automata of the table.
use Rattle.std.proofs.Common.{◌≡◌, ℕ, zero, suc, ◌+◌, ◌<◌, ◌≤◌, ◌==◌, List, [], ◌∷◌, length, Result, Ok, Err, is_ok, inl, inr, sym, ap, subst, arith, ◌*◌, ◌/◌, ◌%◌, ◌||◌, false, Option, Some, None, refl}
use Rattle.std.specs.Prelude.{IsTrue, slice_index, nat_lt}
use Rattle.std.specs.List.{list_any}
use Rattle.std.specs.List.Sorted.{IsBinarySearchResult}
use Rattle.std.specs.Ordering.{nat_cmp}
use Rattle.std.proofs.lemmas.Bool.{cases_lt, or_cases, eqb-true, eq-eqb, false≢true, false_from_ne_true, cases_eq, cases_Bool, both_ways, and_parts, and_from, or_left, or_right, lt-ltb}
use Rattle.std.proofs.lemmas.List.Folds.{list_any_at}
use Rattle.std.proofs.lemmas.List.Sorted.{searched}
use Rattle.std.proofs.Math.Nat.{mul_comm}
use Rattle.std.proofs.lemmas.Nat.{mul-add-lt, div-mul-add, mod-mul-add, div-add-mod', div_below, mod_below}
use Rattle.far.specs.ListedTexts.{has_item, IsRising, ListedAutomata, halt_number, is_node_of, lists_node, list_leads, number_of_node, edges_at, target_of, has_listed_edge, described_by, AreListed, AreListedOf}
use Rattle.far.specs.inside.Steps.{IsPartTo, LeadsInto, LeadInto, GoesAhead, EdgesFit, PairFits, EachPairFits, move_from, BackOver, FitsBack, EachFitsBack, BlankIsKept}
use Rattle.machine_text.specs.declared.table.Sym.{Sym}
use Rattle.machine_text.specs.declared.table.Sym.TheVariants.{Zero, One}
use Rattle.machine_text.specs.declared.table.Entry.{Entry}
use Rattle.machine_text.specs.Terms.{Packed, IsTable, symbol_number, entry_of}
use Rattle.law_turing.specs.Terms.{Node, At, Halt}
use Rattle.law_turing.proofs.RunLaws.{table_machine}

-- Numbers in lists that rise.
pub has_at : (l : List ℕ) (i k : ℕ) → i < length l → slice_index l i ≡ k → IsTrue (has_item l k)
has_at l i k less at = list_any_at (λ x. x == k) l i 0 less (eq-eqb (slice_index l i) k at)

pub at_of : (l : List ℕ) (k : ℕ) → IsTrue (has_item l k) → (i : ℕ) × (i < length l) × (slice_index l i ≡ k)
at_of [] k is = absurd (false≢true is)
at_of (x ∷ l) k is =
    elim (or_cases (x == k) (list_any (λ y. y == k) l) is) [
      | inl here ↦ (0, omega arith, eqb-true x k here)
      | inr there ↦ let (i, less, at) = at_of l k there in (suc i, omega arith, at)
    ]

rises : (l : List ℕ) → IsRising l → (i j : ℕ) → i ≤ j → j < length l → slice_index l i ≤ slice_index l j
rises l up i zero le lt = let same : i ≡ 0 = omega arith in omega (arith, ap (slice_index l) same)
rises l up i (suc j) le lt =
    elim (cases_lt i (suc j)) [
      | inl less ↦
          let step = up.order j (omega arith) in
          let next : slice_index l (j + 1) ≡ slice_index l (suc j) = ap (slice_index l) (let e : j + 1 ≡ suc j = omega arith in e) in
          omega (arith, rises l up i j (omega arith) (omega arith))
      | inr past ↦ let same : i ≡ suc j = omega arith in omega (arith, ap (slice_index l) same)
    ]

-- a binary search finds what is there
pub found : (l : List ℕ) (k : ℕ) (r : Result ℕ ℕ) → IsRising l → IsBinarySearchResult (λ y. nat_cmp y k) l r → is_ok r ≡ has_item l k
found l k (Ok i) up is = let h = searched l k (Ok i) is (rises l up) in sym (has_at l i k h.0 h.1)
found l k (Err i) up is =
    let h = searched l k (Err i) is (rises l up) in
    sym (false_from_ne_true (has_item l k) (λ t.
    let (j, less, at) = at_of l k t in
    elim (cases_lt j i) [ inl below ↦ omega (arith, h.1 j below) | inr above ↦ omega (arith, h.2 j above less) ]))

-- a list whose items are all in another
pub part_has : (a b : List ℕ) → IsPartTo a b (length a) → (k : ℕ) → IsTrue (has_item a k) → IsTrue (has_item b k)
part_has a b part k is = let (i, less, at) = at_of a k is in subst (λ n. IsTrue (has_item b n)) at (part.each i less)

-- both lists gone through as far as places i and j: what stands before j is below what is next in the first one
pub record IsMerged (a b : List ℕ) (i j : ℕ) : Type 0 where
  pub first : i ≤ length a
  pub second : j ≤ length b
  pub part : IsPartTo a b i
  pub below : (k : ℕ) → k < j → i < length a → slice_index b k < slice_index a i

-- the next item isn't there
pub not_there : (a b : List ℕ) (i j : ℕ) → IsRising b → IsMerged a b i j → i < length a → (j < length b → slice_index a i < slice_index b j) → IsPartTo a b (length a) → ⊥
not_there a b i j up merged less above part =
    let (k, within, at) = at_of b (slice_index a i) (part.each i less) in
    elim (cases_lt k j) [
      | inl before ↦ omega (arith, merged.below k before less)
      | inr from ↦ omega (arith, rises b up j k from within, above (omega arith))
    ]

-- Numbers that hold what each state of the second automaton asks for describe automata of the table.
module _ (a : ListedAutomata) (some : 1 ≤ a.states) (numbers : AreListed a) where
  -- the number of a pair, and the pair of a number
  number_below : (q f : ℕ) → q < a.size → f < a.states → q * a.states + f < halt_number a
  number_below q f small within = let below = mul-add-lt q a.states f a.size small within in let turned = mul_comm a.states a.size in omega arith

  pair_at : (q f : ℕ) → q < a.size → f < a.states → IsTrue (is_node_of a (At q f))
  pair_at q f small within = and_from (nat_lt q a.size) (nat_lt f a.states) (lt-ltb q a.size small) (lt-ltb f a.states within)

  first_of : (j : ℕ) → j < halt_number a → j / a.states < a.size
  first_of j below = div_below j a.states a.size (omega arith) below

  second_of : (j : ℕ) → j % a.states < a.states
  second_of j = mod_below j a.states (omega arith)

  joined : (j : ℕ) → j / a.states * a.states + j % a.states ≡ j
  joined j = div-add-mod' j a.states

  abbrev node : ℕ → Node
  node j = At (j / a.states) (j % a.states)

  node_is : (j : ℕ) → j < halt_number a → IsTrue (is_node_of a (node j))
  node_is j below = pair_at (j / a.states) (j % a.states) (first_of j below) (second_of j)

  -- a list leads to a node, by its number or to all
  abbrev to : List ℕ → ℕ → Type 0
  to list k = IsTrue (has_item list (halt_number a) || has_item list k)

  leads_node : (list : List ℕ) (v : Node) → IsTrue (list_leads a list v) → IsTrue (is_node_of a v)
  leads_node list v is = (and_parts (is_node_of a v) (has_item list (halt_number a) || has_item list (number_of_node a v)) is).0

  leads_to : (list : List ℕ) (v : Node) → IsTrue (list_leads a list v) → to list (number_of_node a v)
  leads_to list v is = (and_parts (is_node_of a v) (has_item list (halt_number a) || has_item list (number_of_node a v)) is).1

  leads_by : (list : List ℕ) (v : Node) → IsTrue (is_node_of a v) → to list (number_of_node a v) → IsTrue (list_leads a list v)
  leads_by list v is there = and_from (is_node_of a v) (has_item list (halt_number a) || has_item list (number_of_node a v)) is there

  edge_leads : (q f : ℕ) (s : Sym) (v : Node) → IsTrue (has_listed_edge a (At q f) s v) → IsTrue (list_leads a (edges_at a (q * a.states + f) s) v)
  edge_leads q f s v edge = (and_parts (is_node_of a (At q f)) (list_leads a (edges_at a (q * a.states + f) s) v) edge).1

  edge_by : (q f : ℕ) (s : Sym) (v : Node) → IsTrue (is_node_of a (At q f)) → IsTrue (list_leads a (edges_at a (q * a.states + f) s) v) → IsTrue (has_listed_edge a (At q f) s v)
  edge_by q f s v is there = and_from (is_node_of a (At q f)) (list_leads a (edges_at a (q * a.states + f) s) v) is there

  -- each edge ends in a node
  edge_node : (u : Node) (s : Sym) (v : Node) → IsTrue (has_listed_edge a u s v) → IsTrue (is_node_of a v)
  edge_node (At q f) s v edge = leads_node (edges_at a (q * a.states + f) s) v (edge_leads q f s v edge)
  edge_node Halt s (At q f) edge = absurd (both_ways false refl edge)
  edge_node Halt s Halt edge = refl

  -- what the members of a list lead to, node by node
  reached : (set into : List ℕ) (s : Sym) → LeadInto a set s into (length set) → (u v : Node) → to set (number_of_node a u) → IsTrue (has_listed_edge a u s v) → to into (number_of_node a v)
  reached set into s lead u v member edge =
      elim (or_cases (has_item set (halt_number a)) (has_item set (number_of_node a u)) member) [
        | inl all ↦ let below = (from (halt_number a) all).below in absurd (omega arith)
        | inr there ↦ by u (from (number_of_node a u) there) edge
      ]
    where
      from : (k : ℕ) → IsTrue (has_item set k) → LeadsInto a k s into
      from k is = let (i, less, at) = at_of set k is in subst (λ n. LeadsInto a n s into) at (lead.each i less)

      by : (u : Node) → LeadsInto a (number_of_node a u) s into → IsTrue (has_listed_edge a u s v) → to into (number_of_node a v)
      by Halt lead edge = let below = lead.below in absurd (omega arith)
      by (At q f) lead edge =
          let row : List ℕ = edges_at a (q * a.states + f) s in
          elim (or_cases (has_item row (halt_number a)) (has_item row (number_of_node a v)) (leads_to row v (edge_leads q f s v edge))) [
            | inl all ↦ or_left (has_item into (halt_number a)) (has_item into (number_of_node a v)) (part_has row into lead.part (halt_number a) all)
            | inr there ↦ or_right (has_item into (halt_number a)) (has_item into (number_of_node a v)) (part_has row into lead.part (number_of_node a v) there)
          ]

  -- the number of each item of a list is one of a node
  index_below : (j : ℕ) (s : Sym) → j < halt_number a → 2 * j + symbol_number s < length a.rows
  index_below j Zero below = let long = numbers.edges in omega arith
  index_below j One below = let long = numbers.edges in omega arith

  item_small : (j : ℕ) (s : Sym) → j < halt_number a → (i : ℕ) → i < length (edges_at a j s) → slice_index (edges_at a j s) i ≤ halt_number a
  item_small j s below i less = (numbers.lists (2 * j + symbol_number s) (index_below j s below)).small i less

  -- and back: a list that doesn't lead to all
  lead_by : (set into : List ℕ) (s : Sym) → ((i : ℕ) → i < length set → slice_index set i ≤ halt_number a) → (IsTrue (has_item into (halt_number a)) → ⊥) →
      ((u v : Node) → IsTrue (is_node_of a u) → IsTrue (has_item set (number_of_node a u)) → IsTrue (has_listed_edge a u s v) → to into (number_of_node a v)) → LeadInto a set s into (length set)
  lead_by set into s small never nodes = record { each = λ k less. at (slice_index set k) (small k less) (has_at set k (slice_index set k) less refl) }
    where
      only : (k : ℕ) → to into k → IsTrue (has_item into k)
      only k there = elim (or_cases (has_item into (halt_number a)) (has_item into k) there) [ inl all ↦ absurd (never all) | inr is ↦ is ]

      at : (u : ℕ) → u ≤ halt_number a → IsTrue (has_item set u) → LeadsInto a u s into
      at u top member =
          elim (cases_eq u (halt_number a)) [
            | inl same ↦ absurd (never (only (halt_number a) (nodes Halt Halt refl (subst (λ n. IsTrue (has_item set n)) same member) refl)))
            | inr other ↦
                let below : u < halt_number a = omega arith in
                let edge : (v : Node) → IsTrue (is_node_of a v) → IsTrue (has_item (edges_at a u s) (number_of_node a v)) → to into (number_of_node a v) = λ v is there.
                nodes (node u) v (node_is u below) (subst (λ n. IsTrue (has_item set n)) (sym (joined u)) member)
                (edge_by (u / a.states) (u % a.states) s v (node_is u below) (leads_by (edges_at a (u / a.states * a.states + u % a.states) s) v is
                (subst (λ n. to (edges_at a n s) (number_of_node a v)) (sym (joined u)) (or_right (has_item (edges_at a u s) (halt_number a)) (has_item (edges_at a u s) (number_of_node a v)) there)))) in
                record { below = below; part = record { each = λ i less. item u edge below (slice_index (edges_at a u s) i) (item_small u s below i less) (has_at (edges_at a u s) i (slice_index (edges_at a u s) i) less refl) } }
          ]
        where
          item : (u : ℕ) → ((v : Node) → IsTrue (is_node_of a v) → IsTrue (has_item (edges_at a u s) (number_of_node a v)) → to into (number_of_node a v)) → u < halt_number a → (v : ℕ) → v ≤ halt_number a → IsTrue (has_item (edges_at a u s) v) → IsTrue (has_item into v)
          item u edge below v top there =
              elim (cases_eq v (halt_number a)) [
                | inl same ↦ subst (λ n. IsTrue (has_item into n)) (sym same) (only (halt_number a) (edge Halt refl (subst (λ n. IsTrue (has_item (edges_at a u s) n)) same there)))
                | inr other ↦
                    let less : v < halt_number a = omega arith in
                    subst (λ n. IsTrue (has_item into n)) (joined v) (only (v / a.states * a.states + v % a.states) (edge (node v) (node_is v less) (subst (λ n. IsTrue (has_item (edges_at a u s) n)) (sym (joined v)) there)))
              ]

  module _ (p : Packed) (table : IsTable p) (same : a.states ≡ p.states) where
    next_small : (f : ℕ) (r : Sym) (e : Entry) → entry_of p f r ≡ Some e → e.next.0 < a.states
    next_small f r e is = let below = (table_machine p table).inside f r e is in omega arith

    target_small : (q : ℕ) (s : Sym) → q < a.size → target_of a q s < a.size
    target_small q Zero small = let long = numbers.moves in numbers.targets (2 * q + 0) (omega arith)
    target_small q One small = let long = numbers.moves in numbers.targets (2 * q + 1) (omega arith)

    fits_by : EachPairFits (entry_of p) a (halt_number a) → (q f : ℕ) (r : Sym) → q < a.size → f < a.states → EdgesFit (entry_of p f r) a q f r
    unfolding PairFits
    fits_by each q f r small within = subst (λ (i : ℕ). PairFits (entry_of p) a i f r) (div-mul-add q a.states f within)
        (subst (λ (i : ℕ). PairFits (entry_of p) a ((q * a.states + f) / a.states) i r) (mod-mul-add q a.states f within) (at r))
      where
        at : (r : Sym) → PairFits (entry_of p) a ((q * a.states + f) / a.states) ((q * a.states + f) % a.states) r
        at Zero = each.zero (q * a.states + f) (number_below q f small within)
        at One = each.one (q * a.states + f) (number_below q f small within)

    back_by : EachFitsBack (entry_of p) a a.states → (q f : ℕ) (r b : Sym) (e : Entry) → q < a.size → f < a.states → entry_of p f r ≡ Some e → (e.dir ≡ a.side → ⊥) → BackOver a f r e (move_from a q b)
    back_by each q f r b e small within is way = ((subst (λ o. FitsBack o a f r) is (at r)) way).each q small b
      where
        at : (r : Sym) → FitsBack (entry_of p f r) a f r
        at Zero = each.zero f within
        at One = each.one f within

    back_edge : (q f : ℕ) (r b : Sym) (e : Entry) (u v : Node) → q < a.size → f < a.states → BackOver a f r e (move_from a q b) →
        IsTrue (has_listed_edge a (At q e.next.0) b u) → IsTrue (has_listed_edge a u e.write v) → IsTrue (has_listed_edge a (At (target_of a q b) f) r v)
    back_edge q f r b e u v small within goes first second =
        edge_by (target_of a q b) f r v (pair_at (target_of a q b) f (target_small q b small) within) (leads_by into v (edge_node u e.write v second) (elim (cases_Bool (has_item into (halt_number a))) [
          | inl all ↦ or_left (has_item into (halt_number a)) (has_item into (number_of_node a v)) all
          | inr none ↦ reached set into e.write (goes (both_ways (has_item into (halt_number a)) none)) u v (leads_to set u (edge_leads q e.next.0 b u first)) second
        ]))
      where
        into : List ℕ
        into = edges_at a (target_of a q b * a.states + f) r

        set : List ℕ
        set = edges_at a (q * a.states + e.next.0) b

    pub automata_from : 1 ≤ a.size → BlankIsKept a → EachPairFits (entry_of p) a (halt_number a) → EachFitsBack (entry_of p) a a.states → AreListedOf a p
    unfolding described_by
    automata_from sized keeps each returns = record {
      states = same;
      fits = record {
        some = sized;
        states = λ q s small. target_small q s small;
        blank = keeps.blank;
        halted = λ s. refl;
        halting = λ q f r small within none.
            let row : List ℕ = edges_at a (q * a.states + f) r in
            edge_by q f r Halt (pair_at q f small (omega arith)) (leads_by row Halt refl (or_left (has_item row (halt_number a)) (has_item row (halt_number a)) (subst (λ o. EdgesFit o a q f r) none (fits_by each q f r small (omega arith)))));
        ahead = λ q f r e small within is ahead.
            let fits : (e.dir ≡ a.side → GoesAhead a q f r e) = subst (λ o. EdgesFit o a q f r) is (fits_by each q f r small (omega arith)) in
            edge_by q f r (At (target_of a q e.write) e.next.0) (pair_at q f small (omega arith)) (leads_by (edges_at a (q * a.states + f) r) (At (target_of a q e.write) e.next.0)
            (pair_at (target_of a q e.write) e.next.0 (target_small q e.write small) (next_small f r e is)) (fits ahead));
        back = λ q f r b e u v small within is back first second.
            back_edge q f r b e u v small (omega arith) (back_by returns q f r b e small (omega arith) is back) first second;
        start_kept = and_from (is_node_of a (At 0 0)) (has_item a.keep (0 * a.states + 0)) (pair_at 0 0 sized some) (subst (λ n. IsTrue (has_item a.keep n)) (let e : 0 ≡ 0 * a.states + 0 = omega arith in e) keeps.start);
        blank_kept = λ u v member edge.
            let there = (and_parts (is_node_of a u) (has_item a.keep (number_of_node a u)) member).1 in
            and_from (is_node_of a v) (has_item a.keep (number_of_node a v)) (edge_node u Zero v edge)
            (elim (or_cases (has_item a.keep (halt_number a)) (has_item a.keep (number_of_node a v)) (reached a.keep a.keep Zero keeps.kept u v (or_right (has_item a.keep (halt_number a)) (has_item a.keep (number_of_node a u)) there) edge)) [
              | inl all ↦ absurd (never all)
              | inr is ↦ is
            ]);
        halt_not_kept = false_from_ne_true (lists_node a a.keep Halt) (λ t. never (and_parts (is_node_of a Halt) (has_item a.keep (halt_number a)) t).1);
      };
    }
      where
        never : IsTrue (has_item a.keep (halt_number a)) → ⊥
        never is =
            let (i, less, at) = at_of a.keep (halt_number a) is in
            let below = (keeps.kept.each i less).below in
            absurd (omega arith)

    module _ (of : AreListedOf a p) where
      never_kept : IsTrue (has_item a.keep (halt_number a)) → ⊥
      unfolding described_by
      never_kept is = both_ways (lists_node a a.keep Halt) of.fits.halt_not_kept (and_from (is_node_of a Halt) (has_item a.keep (halt_number a)) refl is)

      pub blank_from : BlankIsKept a
      unfolding described_by
      blank_from = record {
        blank = of.fits.blank;
        start = subst (λ n. IsTrue (has_item a.keep n)) (let e : 0 * a.states + 0 ≡ 0 = omega arith in e) (and_parts (is_node_of a (At 0 0)) (has_item a.keep (0 * a.states + 0)) of.fits.start_kept).1;
        kept = lead_by a.keep a.keep Zero numbers.kept.small never_kept (λ u v is there edge.
            or_right (has_item a.keep (halt_number a)) (has_item a.keep (number_of_node a v))
            (and_parts (is_node_of a v) (has_item a.keep (number_of_node a v)) (of.fits.blank_kept u v (and_from (is_node_of a u) (has_item a.keep (number_of_node a u)) is there) edge)).1);
      }

      back_at : (q f : ℕ) (r b : Sym) (e : Entry) → q < a.size → f < a.states → entry_of p f r ≡ Some e → (e.dir ≡ a.side → ⊥) → BackOver a f r e (move_from a q b)
      unfolding described_by
      back_at q f r b e small within is back never =
          let set : List ℕ = edges_at a (q * a.states + e.next.0) b in
          let into : List ℕ = edges_at a (target_of a q b * a.states + f) r in
          let next = next_small f r e is in
          lead_by set into e.write (item_small (q * a.states + e.next.0) b (number_below q e.next.0 small next)) never (λ u v node there edge.
          leads_to into v (edge_leads (target_of a q b) f r v (of.fits.back q f r b e u v small (omega arith) is back
          (edge_by q e.next.0 b u (pair_at q e.next.0 small next) (leads_by set u node (or_right (has_item set (halt_number a)) (has_item set (number_of_node a u)) there))) edge)))

      by_entry : (q f : ℕ) (r : Sym) (o : Option Entry) → q < a.size → f < a.states → entry_of p f r ≡ o → EdgesFit o a q f r
      unfolding described_by
      by_entry q f r None small within is =
          let row : List ℕ = edges_at a (q * a.states + f) r in
          elim (or_cases (has_item row (halt_number a)) (has_item row (halt_number a)) (leads_to row Halt (edge_leads q f r Halt (of.fits.halting q f r small (omega arith) is)))) [ inl all ↦ all | inr all ↦ all ]
      by_entry q f r (Some e) small within is = λ ahead. leads_to (edges_at a (q * a.states + f) r) (At (target_of a q e.write) e.next.0) (edge_leads q f r (At (target_of a q e.write) e.next.0) (of.fits.ahead q f r e small (omega arith) is ahead))

      pub each_from : EachPairFits (entry_of p) a (halt_number a)
      unfolding PairFits
      each_from = record {
        zero = λ j below. by_entry (j / a.states) (j % a.states) Zero (entry_of p (j % a.states) Zero) (first_of j below) (second_of j) refl;
        one = λ j below. by_entry (j / a.states) (j % a.states) One (entry_of p (j % a.states) One) (first_of j below) (second_of j) refl;
      }

      back_of : (f : ℕ) (r : Sym) (o : Option Entry) → f < a.states → entry_of p f r ≡ o → FitsBack o a f r
      back_of f r None within is = tt
      back_of f r (Some e) within is = λ way. record { each = λ q small b. back_at q f r b e small within is way }

      pub back_from : EachFitsBack (entry_of p) a a.states
      back_from = record {
        zero = λ f below. back_of f Zero (entry_of p f Zero) below refl;
        one = λ f below. back_of f One (entry_of p f One) below refl;
      }
