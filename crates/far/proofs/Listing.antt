-- Automata as lists: numbers one behind another, transitions in any order, and edges that were looked at.
use Rattle.std.proofs.Common.{◌≡◌, ◌<◌, ◌≤◌, ℕ, zero, suc, ◌+◌, ◌*◌, ◌++◌, List, [], ◌∷◌, length, get_or, inl, inr, subst, sym, ◌∙◌, arith, ◌-◌, map, take, drop, ap, refl}
use Rattle.std.specs.Prelude.{All, IsPermutation, slice_index}
use Rattle.std.proofs.Math.ListN.{set}
use Rattle.std.proofs.lemmas.Bool.{cases_eq, cases_lt}
use Rattle.std.proofs.lemmas.List.{get_or_default, get_or-set_same, get_or-set_other, length-set, take-append-le, drop-append-le, length-drop, take_all}
use Rattle.std.proofs.lemmas.List.Elements.{All-nil, All-cons, All-head, All-tail, All-append, All-get_or, All-from_get_or}
use Rattle.std.proofs.lemmas.List.Sorted.{All-permutation, IsPermutation-sym}
use Rattle.std.specs.List.{range_with_len}
use Rattle.std.proofs.lemmas.Grind.{common_steps}
use Rattle.std.proofs.lemmas.List.FromFn.{length-map-range_with_len, get_or-map-range_with_len, map-range_with_len_more}
use Rattle.std.proofs.Math.Seq.{drop-append_seam}
use Rattle.machine_text.specs.declared.table.Sym.{Sym}
use Rattle.machine_text.specs.declared.table.Sym.TheVariants.{Zero, One}
use Rattle.machine_text.specs.declared.table.Entry.{Entry}
use Rattle.far.specs.declared.listed_fits.Move.{Move}
use Rattle.far.specs.ListedTexts.{ListedAutomata, AreListed, edges_at, target_of, halt_number}
use Rattle.far.specs.inside.Steps.{LeadsInto, LeadInto, move_from, all_moves, BackOver, BackOverEach, GoesBack, AreSeen}
use Rattle.far.specs.inside.Reading.{list_at, lists_between, AreStarts}

-- The transitions of the first automaton, in any order, and the states whose edges were looked at before.
split : {X : Type 0} (P : X → Type 0) (xs ys : List X) → All P (xs ++ ys) → All P xs × All P ys
split P [] ys all = (All-nil P, all)
split P (x ∷ xs) ys all = let rest = split P xs ys (All-tail P x (xs ++ ys) all) in (All-cons P x xs (All-head P x (xs ++ ys) all) rest.0, rest.1)

module _ (a : ListedAutomata) (P : Move → Type 0) where
  abbrev of_state : ℕ → List Move
  of_state q = move_from a q Zero ∷ (move_from a q One ∷ [])

  moves_all : (m : ℕ) → ((q : ℕ) → q < m → (s : Sym) → P (move_from a q s)) → All P (all_moves a m)
  moves_all zero each = All-nil P
  moves_all (suc q) each =
      All-append P (all_moves a q) (of_state q) (moves_all q (λ k less s. each k (omega arith) s))
      (All-cons P (move_from a q Zero) (move_from a q One ∷ []) (each q (omega arith) Zero) (All-cons P (move_from a q One) [] (each q (omega arith) One) (All-nil P)))

  moves_each : (m : ℕ) → All P (all_moves a m) → (q : ℕ) → q < m → (s : Sym) → P (move_from a q s)
  moves_each zero all q less s = absurd (omega arith)
  moves_each (suc n) all q less s =
      let parts = split P (all_moves a n) (of_state n) all in
      elim (cases_lt q n) [
        | inl before ↦ moves_each n parts.0 q before s
        | inr from ↦ let same : q ≡ n = omega arith in subst (λ k. P (move_from a k s)) (sym same) (last parts.1 s)
      ]
    where
      last : All P (of_state n) → (s : Sym) → P (move_from a n s)
      last all Zero = All-head P (move_from a n Zero) (move_from a n One ∷ []) all
      last all One = All-head P (move_from a n One) [] (All-tail P (move_from a n Zero) (move_from a n One ∷ []) all)

target_within : (a : ListedAutomata) → AreListed a → (q : ℕ) (s : Sym) → q < a.size → target_of a q s < a.size
target_within a numbers q Zero small = let long = numbers.moves in numbers.targets (2 * q + 0) (omega arith)
target_within a numbers q One small = let long = numbers.moves in numbers.targets (2 * q + 1) (omega arith)

module _ (a : ListedAutomata) (moves : List Move) (same : IsPermutation (all_moves a a.size) moves) where
  abbrev IsWithin : Move → Type 0
  IsWithin v = (v.from < a.size) × (v.to < a.size)

  pub moves_within : AreListed a → (k : ℕ) (d : Move) → k < length moves → (get_or moves k d).from < a.size × (get_or moves k d).to < a.size
  moves_within numbers k d less =
      All-get_or IsWithin moves k d less (All-permutation IsWithin (all_moves a a.size) moves same (moves_all a IsWithin a.size (λ q small s. (small, target_within a numbers q s small))))

  module _ (f : ℕ) (r : Sym) (e : Entry) where
    pub over_each : GoesBack a f r e → (k : ℕ) (d : Move) → k < length moves → BackOver a f r e (get_or moves k d)
    over_each goes k d less =
        All-get_or (BackOver a f r e) moves k d less (All-permutation (BackOver a f r e) (all_moves a a.size) moves same (moves_all a (BackOver a f r e) a.size goes.each))

    pub over_all : BackOverEach a f r e moves (length moves) → GoesBack a f r e
    over_all over = record {
      each = moves_each a (BackOver a f r e) a.size (All-permutation (BackOver a f r e) moves (all_moves a a.size) (IsPermutation-sym (all_moves a a.size) moves same)
          (All-from_get_or (BackOver a f r e) moves (move_from a 0 Zero) (λ k less. over.each k (move_from a 0 Zero) less)));
    }

-- one more state is seen
pub seen_more : (a : ListedAutomata) (f : ℕ) (r s : Sym) (seen : List ℕ) (u to : ℕ) → AreSeen a f r s seen → u < halt_number a →
    LeadsInto a u s (edges_at a (to * a.states + f) r) → AreSeen a f r s (set seen u to)
seen_more a f r s seen u to are below leads = record { all = length-set seen u to ∙ are.all; each = at }
  where
    at : (v : ℕ) → v < halt_number a → slice_index (set seen u to) v < a.size → LeadsInto a v s (edges_at a (slice_index (set seen u to) v * a.states + f) r)
    at v under state =
        elim (cases_eq v u) [
          | inl here ↦
              let there : slice_index (set seen u to) u ≡ to = get_or-set_same seen u to 0 (let long = are.all in omega arith) in
              subst (λ w. LeadsInto a w s (edges_at a (slice_index (set seen u to) w * a.states + f) r)) (sym here)
              (subst (λ n. LeadsInto a u s (edges_at a (n * a.states + f) r)) (sym there) leads)
          | inr other ↦
              let kept : slice_index (set seen u to) v ≡ slice_index seen v = get_or-set_other seen u v to 0 other in
              subst (λ n. LeadsInto a v s (edges_at a (n * a.states + f) r)) (sym kept) (are.each v under (subst (λ n. n < a.size) kept state))
        ]

-- one more state of a list, and one more transition
pub lead_more : (a : ListedAutomata) (set : List ℕ) (s : Sym) (into : List ℕ) (i : ℕ) → LeadInto a set s into i → LeadsInto a (slice_index set i) s into → LeadInto a set s into (i + 1)
lead_more a set s into i lead one = record { each = at }
  where
    at : (k : ℕ) → k < i + 1 → LeadsInto a (slice_index set k) s into
    at k less = elim (cases_lt k i) [
      | inl before ↦ lead.each k before
      | inr from ↦ let same : k ≡ i = omega arith in subst (λ j. LeadsInto a (slice_index set j) s into) (sym same) one
    ]

pub over_more : (a : ListedAutomata) (f : ℕ) (r : Sym) (e : Entry) (moves : List Move) (i : ℕ) (d : Move) → BackOverEach a f r e moves i → i < length moves →
    BackOver a f r e (get_or moves i d) → BackOverEach a f r e moves (i + 1)
over_more a f r e moves i d over within one = record { each = at }
  where
    at : (k : ℕ) (o : Move) → k < i + 1 → BackOver a f r e (get_or moves k o)
    at k o less = elim (cases_lt k i) [
      | inl before ↦ over.each k o before
      | inr from ↦
          let same : k ≡ i = omega arith in
          subst (λ j. BackOver a f r e (get_or moves j o)) (sym same) (subst (BackOver a f r e) (get_or_default moves i d o within) one)
    ]

-- Lists of numbers, one behind another.
pub lists_length : (starts items : List ℕ) → length (lists_between starts items) ≡ length starts - 1
lists_length starts items = length-map-range_with_len (list_at starts items) 0 (length starts - 1)

pub lists_at : (starts items : List ℕ) (k : ℕ) → k < length starts - 1 → get_or (lists_between starts items) k [] ≡ list_at starts items k
lists_at starts items k less = get_or-map-range_with_len (list_at starts items) 0 (length starts - 1) k k [] less (omega arith)

-- what is between two starts is a list
pub between : (starts items : List ℕ) (lists : List (List ℕ)) (k from to : ℕ) → lists_between starts items ≡ lists → AreStarts starts items → k < length lists →
    from ≡ get_or starts k from → to ≡ get_or starts (k + 1) to → (from ≤ to) × (to ≤ length items) × (take (to - from) (drop from items) ≡ get_or lists k [])
between starts items lists k from to view are less from_is to_is =
    let long : length (lists_between starts items) ≡ length lists = ap length view in
    let few : k < length starts - 1 = omega (arith, lists_length starts items) in
    let first : from ≡ slice_index starts k = from_is ∙ get_or_default starts k from 0 (omega arith) in
    let second : to ≡ slice_index starts (k + 1) = to_is ∙ get_or_default starts (k + 1) to 0 (omega arith) in (
      omega (arith, are.order k (omega arith)),
      omega (arith, are.within (k + 1) (omega arith)),
      ap (λ n. take (to - n) (drop n items)) first ∙ ap (λ n. take (n - slice_index starts k) (drop (slice_index starts k) items)) second ∙ sym (lists_at starts items k few) ∙ ap (λ l. get_or l k []) view,
    )

same_map : (f g : ℕ → List ℕ) (n : ℕ) → ((k : ℕ) → k < n → f k ≡ g k) → map f (range_with_len 0 n) ≡ map g (range_with_len 0 n)
same_map f g zero each = refl
same_map f g (suc n) each =
    let one : suc n ≡ n + 1 = omega arith in
    ap (λ j. map f (range_with_len 0 j)) one
    ∙ map-range_with_len_more f 0 n n (omega arith)
    ∙ ap (λ l. l ++ f n ∷ []) (same_map f g n (λ k less. each k (omega arith)))
    ∙ ap (λ x. map g (range_with_len 0 n) ++ x ∷ []) (each n (omega arith))
    ∙ sym (map-range_with_len_more g 0 n n (omega arith))
    ∙ sym (ap (λ j. map g (range_with_len 0 j)) one)

-- one more list behind the others: the earlier ones stay
module _ (starts items list : List ℕ) (are : AreStarts starts items) where
  abbrev more : List ℕ
  more = starts ++ length (items ++ list) ∷ []

  kept_start : (k : ℕ) → k < length starts → slice_index more k ≡ slice_index starts k
  kept_start k less = grind (arith, common_steps)

  last_start : slice_index more (length starts) ≡ length items + length list
  last_start = grind (arith, common_steps)

  kept_list : (k : ℕ) → k + 1 < length starts → list_at more (items ++ list) k ≡ list_at starts items k
  kept_list k less =
      let from : ℕ = slice_index starts k in
      let to : ℕ = slice_index starts (k + 1) in
      let order = are.order k less in
      let within = are.within (k + 1) (omega arith) in
      ap (λ n. take (slice_index more (k + 1) - n) (drop n (items ++ list))) (kept_start k (omega arith))
      ∙ ap (λ n. take (n - from) (drop from (items ++ list))) (kept_start (k + 1) less)
      ∙ ap (take (to - from)) (drop-append-le from items list (omega arith))
      ∙ take-append-le (to - from) (drop from items) list (omega (arith, length-drop from items))

  new_list : (n : ℕ) → n + 1 ≡ length starts → list_at more (items ++ list) n ≡ list
  new_list n is =
      let end : slice_index more n ≡ length items = kept_start n (omega arith) ∙ ap (slice_index starts) (let e : n ≡ length starts - 1 = omega arith in e) ∙ are.end in
      let beyond : slice_index more (n + 1) ≡ length items + length list = ap (slice_index more) is ∙ last_start in
      ap (λ i. take (slice_index more (n + 1) - i) (drop i (items ++ list))) end
      ∙ ap (λ i. take (i - length items) (drop (length items) (items ++ list))) beyond
      ∙ ap (take (length items + length list - length items)) (drop-append_seam items list)
      ∙ take_all (length items + length list - length items) list (omega arith)

  pub lists_more : lists_between more (items ++ list) ≡ lists_between starts items ++ list ∷ []
  lists_more =
      let n : ℕ = length starts - 1 in
      let some = are.some in
      let long : length more ≡ length starts + 1 = grind (arith, common_steps) in
      ap (λ j. map (list_at more (items ++ list)) (range_with_len 0 j)) (let e : length more - 1 ≡ n + 1 = omega arith in e)
      ∙ map-range_with_len_more (list_at more (items ++ list)) 0 n n (omega arith)
      ∙ ap (λ l. l ++ list_at more (items ++ list) n ∷ []) (same_map (list_at more (items ++ list)) (list_at starts items) n (λ k less. kept_list k (omega arith)))
      ∙ ap (λ x. lists_between starts items ++ x ∷ []) (new_list n (omega arith))

pub pushed : (starts reserved grown items extended list : List ℕ) (lists : List (List ℕ)) (n : ℕ) → lists_between starts items ≡ lists → AreStarts starts items →
    reserved ≡ starts → extended ≡ items ++ list → grown ≡ reserved ++ n ∷ [] → n ≡ length extended → lists_between grown extended ≡ lists ++ list ∷ []
pushed starts reserved grown items extended list lists n view are same_starts items_is starts_is n_is =
    let all : grown ≡ starts ++ length (items ++ list) ∷ [] = starts_is ∙ ap (λ l. l ++ n ∷ []) same_starts ∙ ap (λ k. starts ++ k ∷ []) (n_is ∙ ap length items_is) in
    ap (λ l. lists_between l extended) all ∙ ap (lists_between (starts ++ length (items ++ list) ∷ [])) items_is ∙ lists_more starts items list are ∙ ap (λ l. l ++ list ∷ []) view
