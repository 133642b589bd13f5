-- What is told of records that one board would hold, or that say the same of each table.
use Rattle.std.proofs.Common.{◌≡◌, ℕ, ◌<◌, ◌≤◌, true, filter, length, List, [], ◌∷◌, Option, Some, None, option_map, inl, inr, ◌↔◌, refl, sym, ◌∙◌, ap, subst, arith}
use Rattle.std.specs.List.Sorted.{IsPermutation, IsSorted}
use Rattle.machine_text.specs.Terms.{Packed, IsTable, table_cmp, empty_table}
use Rattle.law_tree.specs.Terms.{Mark, Halting, NeverHalting, Holdout, IsOpen, Scores, IsBestOfTable}
use Rattle.cert.specs.Terms.{Recorded}
use Rattle.ledger.specs.Terms.{mark_in, mark_of, IsHeld, IsHoldout, Contents, IsBoard, IsBoardOf, IsSigma, AreAll, AreSoMany, HasOnes, IsHalting, IsNeverHalting, IsGreatestCount, IsGreatestOnes, IsChampion, IsOnesChampion, IsTally, IsStatus}
use Rattle.ledger.specs.declared.counts.Tally.{Tally}
use Rattle.ledger.specs.declared.faults.Status.{Status}
use Rattle.ledger.specs.declared.faults.Status.TheVariants.{Working, Holdouts, Complete}
use Rattle.ledger.proofs.Amounts.{as_many, none_of_kind}
use Rattle.ledger.proofs.HeldLaws.{held_apart, claim_member, member_claim}
use Rattle.ledger.proofs.Numbers.{number_of_kind}
use Rattle.ledger.proofs.WholeTree.{one_list}
use Rattle.totals.proofs.TrunkAndParts.{claimed}
use Rattle.law_tree.proofs.TableLaws.{tree_table_child, tree_alike}
use Rattle.ledger.specs.declared.header.Format.TheVariants.{Two}
use Rattle.ledger.proofs.BoardLaws.{OfTables, marked_table, Below}
use Rattle.ledger.proofs.Sets.{all_apart, all_sorted}
use Rattle.totals.specs.Totals.{AreExactly, AreTotals, Totals}
use Rattle.machine_text.specs.declared.limits.TheConstants.{MAX_STATES}
use Rattle.law_turing.specs.Terms.{HaltsAt, IsRado}
use Rattle.ledger.proofs.Completeness.{Claims, CompleteIsClosed, ClosedIsBest, ClosedIsBestScore, CompleteIsRado, CompleteIsSigma, complete_best, complete_ones, complete_rado, complete_sigma}

-- Records that say the same of each table are told of in the same way.
abbrev Agree : List Recorded → List Recorded → Type 0
Agree rs others = (t : Packed) → mark_in rs t ≡ mark_in others t

back : (rs others : List Recorded) → Agree rs others → Agree others rs
back rs others agree = λ t. sym (agree t)

marked_so : (rs others : List Recorded) (m : Mark) → Agree rs others → (t : Packed) → (mark_in rs t ≡ Some m) ↔ (mark_in others t ≡ Some m)
marked_so rs others m agree t = (λ is. sym (agree t) ∙ is, λ is. agree t ∙ is)

open_so : (root : Packed) (rs others : List Recorded) → Agree rs others → (t : Packed) → IsOpen root (mark_in rs) t → IsOpen root (mark_in others) t
open_so root rs others agree t opened = record {
  unmarked = sym (agree t) ∙ opened.unmarked;
  place = elim opened.place [ inl e ↦ inl e | inr w ↦ inr (w.0, w.1, sym (agree w.0) ∙ w.2, w.3) ];
}

opened_so : (root : Packed) (rs others : List Recorded) → Agree rs others → (t : Packed) → IsOpen root (mark_in rs) t ↔ IsOpen root (mark_in others) t
opened_so root rs others agree t = (open_so root rs others agree t, open_so root others rs (back rs others agree) t)

halting_so : (rs others : List Recorded) → Agree rs others → (t : Packed) → IsHalting rs t ↔ IsHalting others t
halting_so rs others agree t = (λ h. (h.0, sym (agree t) ∙ h.1), λ h. (h.0, agree t ∙ h.1))

ones_so : (rs others : List Recorded) (s : ℕ) → Agree rs others → (t : Packed) → HasOnes rs s t ↔ HasOnes others s t
ones_so rs others s agree t = (λ h. (h.0, sym (agree t) ∙ h.1, h.2), λ h. (h.0, agree t ∙ h.1, h.2))

champion_so : (rs others : List Recorded) (best : Option ℕ) → Agree rs others → (t : Packed) → IsChampion rs best t ↔ IsChampion others best t
champion_so rs others None agree t = (λ f. f, λ f. f)
champion_so rs others (Some s) agree t = marked_so rs others (Halting s) agree t

ones_champion_so : (rs others : List Recorded) (ones : Option ℕ) → Agree rs others → (t : Packed) → IsOnesChampion rs ones t ↔ IsOnesChampion others ones t
ones_champion_so rs others None agree t = (λ f. f, λ f. f)
ones_champion_so rs others (Some s) agree t = ones_so rs others s agree t

pub same_champions : (rs others : List Recorded) (best : Option ℕ) (xs ys : List Packed) → Agree rs others → AreAll (IsChampion rs best) xs → AreAll (IsChampion others best) ys → xs ≡ ys
same_champions rs others best xs ys agree x y = one_list (IsChampion rs best) (IsChampion others best) xs ys (champion_so rs others best agree) x y

pub same_ones_champions : (rs others : List Recorded) (ones : Option ℕ) (xs ys : List Packed) → Agree rs others → AreAll (IsOnesChampion rs ones) xs → AreAll (IsOnesChampion others ones) ys → xs ≡ ys
same_ones_champions rs others ones xs ys agree x y = one_list (IsOnesChampion rs ones) (IsOnesChampion others ones) xs ys (ones_champion_so rs others ones agree) x y

pub same_holdouts : (rs others : List Recorded) (xs ys : List Packed) → Agree rs others → AreAll (IsHoldout rs) xs → AreAll (IsHoldout others) ys → xs ≡ ys
same_holdouts rs others xs ys agree x y = one_list (IsHoldout rs) (IsHoldout others) xs ys (marked_so rs others Holdout agree) x y

-- the greatest numbers are the same
same_best : (rs others : List Recorded) (a b : Option ℕ) → Agree rs others → IsGreatestCount rs a → IsGreatestCount others b → a ≡ b
same_best rs others None None agree x y = refl
same_best rs others None (Some s) agree x y = absurd (x y.0.0 s (agree y.0.0 ∙ y.0.1))
same_best rs others (Some r) None agree x y = absurd (y x.0.0 r (sym (agree x.0.0) ∙ x.0.1))
same_best rs others (Some r) (Some s) agree x y =
    let low : r ≤ s = y.1 x.0.0 r (sym (agree x.0.0) ∙ x.0.1) in
    let high : s ≤ r = x.1 y.0.0 s (agree y.0.0 ∙ y.0.1) in
    ap (λ (n : ℕ). Some n) (omega (arith, low, high))

same_ones : (rs others : List Recorded) (a b : Option ℕ) → Agree rs others → IsGreatestOnes rs a → IsGreatestOnes others b → a ≡ b
same_ones rs others None None agree x y = refl
same_ones rs others None (Some s) agree x y = absurd (x y.0.0 s ((ones_so rs others s agree y.0.0).1 y.0.1))
same_ones rs others (Some r) None agree x y = absurd (y x.0.0 r ((ones_so rs others r agree x.0.0).0 x.0.1))
same_ones rs others (Some r) (Some s) agree x y =
    let low : r ≤ s = y.1 x.0.0 r ((ones_so rs others r agree x.0.0).0 x.0.1) in
    let high : s ≤ r = x.1 y.0.0 s ((ones_so rs others s agree y.0.0).1 y.0.1) in
    ap (λ (n : ℕ). Some n) (omega (arith, low, high))

-- so many tables are recorded as there are records
abbrev IsMarked : List Recorded → Packed → Type 0
IsMarked rs t = (m : Mark) × (mark_in rs t ≡ Some m)

all_pass : (rs : List Recorded) → filter (λ (r : Recorded). true) rs ≡ rs
all_pass [] = refl
all_pass (r ∷ rs) = ap (λ (l : List Recorded). r ∷ l) (all_pass rs)

marked_number : (root : Packed) (rs : List Recorded) → IsHeld root rs → AreSoMany (IsMarked rs) (length rs)
marked_number root rs held =
    let apart = held_apart root rs held in
    subst (λ (l : List Recorded). AreSoMany (IsMarked rs) (length l)) (all_pass rs)
    (number_of_kind (IsMarked rs) (λ (r : Recorded). true) rs apart
    (λ r at pass. (mark_of r.claim, ap (option_map mark_of) (member_claim rs r apart at)))
    (λ t marked. let c = claimed rs t marked.0 marked.1 in (record { table = t; claim = c.0 }, claim_member rs t c.0 c.1, refl, refl)))

same_number : (root : Packed) (rs others : List Recorded) → IsHeld root rs → IsHeld root others → Agree rs others → length rs ≡ length others
same_number root rs others held also agree = as_many (IsMarked rs) (IsMarked others) (length rs) (length others)
    (λ t. (λ h. (h.0, sym (agree t) ∙ h.1), λ h. (h.0, agree t ∙ h.1))) (marked_number root rs held) (marked_number root others also)

abbrev told : ℕ → ℕ → ℕ → ℕ → ℕ → Option ℕ → Option ℕ → Tally
told nodes halting never holdouts open_count best ones = record { nodes = nodes; halting = halting; never = never; holdouts = holdouts; open_count = open_count; best = best; ones = ones }

pub same_tally : (root : Packed) (rs others : List Recorded) (a b : Tally) → IsHeld root rs → IsHeld root others → Agree rs others → IsTally root rs a → IsTally root others b → a ≡ b
same_tally root rs others a b held also agree x y =
    let opened : a.open_count ≡ b.open_count = as_many (IsOpen root (mark_in rs)) (IsOpen root (mark_in others)) a.open_count b.open_count (opened_so root rs others agree) x.open_count y.open_count in
    let halting : a.halting ≡ b.halting = as_many (IsHalting rs) (IsHalting others) a.halting b.halting (halting_so rs others agree) x.halting y.halting in
    let never : a.never ≡ b.never = as_many (IsNeverHalting rs) (IsNeverHalting others) a.never b.never (marked_so rs others NeverHalting agree) x.never y.never in
    let holdouts : a.holdouts ≡ b.holdouts = as_many (IsHoldout rs) (IsHoldout others) a.holdouts b.holdouts (marked_so rs others Holdout agree) x.holdouts y.holdouts in
    let records = same_number root rs others held also agree in
    let nodes : a.nodes ≡ b.nodes = omega (arith, x.nodes, y.nodes, opened, records) in
    let best = same_best rs others a.best b.best agree x.best y.best in
    let ones = same_ones rs others a.ones b.ones agree x.ones y.ones in
    ap (λ (n : ℕ). told n a.halting a.never a.holdouts a.open_count a.best a.ones) nodes
    ∙ (ap (λ (n : ℕ). told b.nodes n a.never a.holdouts a.open_count a.best a.ones) halting
    ∙ (ap (λ (n : ℕ). told b.nodes b.halting n a.holdouts a.open_count a.best a.ones) never
    ∙ (ap (λ (n : ℕ). told b.nodes b.halting b.never n a.open_count a.best a.ones) holdouts
    ∙ (ap (λ (n : ℕ). told b.nodes b.halting b.never b.holdouts n a.best a.ones) opened
    ∙ (ap (λ (s : Option ℕ). told b.nodes b.halting b.never b.holdouts b.open_count s a.ones) best
    ∙ ap (λ (s : Option ℕ). told b.nodes b.halting b.never b.holdouts b.open_count b.best s) ones)))))

-- none is open where there are so many, more than none
some_left : (K : Packed → Type 0) (n : ℕ) → 0 < n → AreSoMany K n → ((t : Packed) → K t → ⊥) → ⊥
some_left K n some many none = let no = none_of_kind K n many none in omega (arith, some)

pub same_status : (root : Packed) (rs others : List Recorded) (a b : Status) → IsHeld root rs → IsHeld root others → Agree rs others → IsStatus root rs a → IsStatus root others b → a ≡ b
same_status root rs others (Working m) (Working n) held also agree x y =
    ap (λ (k : ℕ). Working k) (as_many (IsOpen root (mark_in rs)) (IsOpen root (mark_in others)) m n (opened_so root rs others agree) x.1 y.1)
same_status root rs others (Working m) (Holdouts n) held also agree x y =
    absurd (some_left (IsOpen root (mark_in rs)) m x.0 x.1 (λ t opened. y.0 t (open_so root rs others agree t opened)))
same_status root rs others (Working m) (Complete best ones) held also agree x y =
    absurd (some_left (IsOpen root (mark_in rs)) m x.0 x.1 (λ t opened. y.0.none_open t (open_so root rs others agree t opened)))
same_status root rs others (Holdouts m) (Working n) held also agree x y =
    absurd (some_left (IsOpen root (mark_in others)) n y.0 y.1 (λ t opened. x.0 t (open_so root others rs (back rs others agree) t opened)))
same_status root rs others (Holdouts m) (Holdouts n) held also agree x y =
    ap (λ (k : ℕ). Holdouts k) (as_many (IsHoldout rs) (IsHoldout others) m n (marked_so rs others Holdout agree) x.2 y.2)
same_status root rs others (Holdouts m) (Complete best ones) held also agree x y =
    absurd (some_left (IsHoldout rs) m x.1 x.2 (λ t held_out. y.0.no_holdout t (sym (agree t) ∙ held_out)))
same_status root rs others (Complete best ones) (Working n) held also agree x y =
    absurd (some_left (IsOpen root (mark_in others)) n y.0 y.1 (λ t opened. x.0.none_open t (open_so root others rs (back rs others agree) t opened)))
same_status root rs others (Complete best ones) (Holdouts n) held also agree x y =
    absurd (some_left (IsHoldout others) n y.1 y.2 (λ t held_out. x.0.no_holdout t (agree t ∙ held_out)))
same_status root rs others (Complete best ones) (Complete best_too ones_too) held also agree x y =
    ap (λ (o : Option ℕ). Complete o ones) (same_best rs others best best_too agree x.1 y.1) ∙ ap (λ (o : Option ℕ). Complete best_too o) (same_ones rs others ones ones_too agree x.2 y.2)

-- What is told of records that one board would hold: their totals, and from these the champions and holdouts in their order.

-- the board that holds the records
abbrev pub board_of : Packed → List Recorded → Contents
board_of root rs = record { root = root; records = rs; format = Two }

-- what a board tells
pub board_totals : (b : Contents) (tally : Tally) (champions ones_champions holdouts : List Packed) → IsTally b.root b.records tally
    → ((best : Option ℕ) → IsGreatestCount b.records best → AreAll (IsChampion b.records best) champions)
    → ((ones : Option ℕ) → IsGreatestOnes b.records ones → AreAll (IsOnesChampion b.records ones) ones_champions)
    → AreAll (IsHoldout b.records) holdouts
    → AreTotals b.root b.records (record { tally = tally; champions = champions; ones_champions = ones_champions; holdouts = holdouts })
board_totals b tally champions ones_champions holdouts counted by_steps by_scores undecided = record {
  counted = counted;
  are_champions = exactly (IsChampion b.records tally.best) champions (by_steps tally.best counted.best);
  are_ones_champions = exactly (IsOnesChampion b.records tally.ones) ones_champions (by_scores tally.ones counted.ones);
  are_holdouts = exactly (IsHoldout b.records) holdouts undecided;
}
  where
    exactly : (K : Packed → Type 0) (tables : List Packed) → AreAll K tables → AreExactly K tables
    exactly K tables all = record { exact = all.exact; once = all_apart K tables all }

-- the tables of a kind, sorted, are all of them in the order of their texts
of_tables : OfTables
of_tables p t is_table inside = let alike = tree_alike p t is_table inside in (alike.is_table, alike.states)

in_order : (K : Packed → Type 0) (xs ys : List Packed) → AreExactly K xs → ((t : Packed) → K t → IsTable t) → IsPermutation xs ys → IsSorted table_cmp ys → AreAll K ys
in_order K xs ys x are_tables same sorted = all_sorted K xs ys (λ t at. (x.exact t).0 at) (λ t k. (x.exact t).1 k) are_tables x.once same sorted

one_best : (rs : List Recorded) (a b : Option ℕ) → IsGreatestCount rs a → IsGreatestCount rs b → a ≡ b
one_best rs None None x y = refl
one_best rs None (Some s) x y = absurd (x y.0.0 s y.0.1)
one_best rs (Some r) None x y = absurd (y x.0.0 r x.0.1)
one_best rs (Some r) (Some s) x y =
    let low : r ≤ s = y.1 x.0.0 r x.0.1 in let high : s ≤ r = x.1 y.0.0 s y.0.1 in ap (λ (n : ℕ). Some n) (omega (arith, low, high))

one_ones : (rs : List Recorded) (a b : Option ℕ) → IsGreatestOnes rs a → IsGreatestOnes rs b → a ≡ b
one_ones rs None None x y = refl
one_ones rs None (Some s) x y = absurd (x y.0.0 s y.0.1)
one_ones rs (Some r) None x y = absurd (y x.0.0 r x.0.1)
one_ones rs (Some r) (Some s) x y =
    let low : r ≤ s = y.1 x.0.0 r x.0.1 in let high : s ≤ r = x.1 y.0.0 s y.0.1 in ap (λ (n : ℕ). Some n) (omega (arith, low, high))

champion_table : (b : Contents) (best : Option ℕ) (t : Packed) → IsBoard b → IsChampion b.records best t → IsTable t
champion_table b None t board champion = absurd champion
champion_table b (Some s) t board champion = marked_table b t (Halting s) tree_table_child of_tables board champion

ones_champion_table : (b : Contents) (ones : Option ℕ) (t : Packed) → IsBoard b → IsOnesChampion b.records ones t → IsTable t
ones_champion_table b None t board champion = absurd champion
ones_champion_table b (Some s) t board champion = marked_table b t (Halting champion.0) tree_table_child of_tables board champion.1

module _ (root : Packed) (rs : List Recorded) (totals : Totals) (board : IsBoardOf root rs) (are : AreTotals root rs totals) (ys : List Packed) (sorted : IsSorted table_cmp ys) where
  pub sorted_champions : IsPermutation totals.champions ys → (best : Option ℕ) → IsGreatestCount rs best → AreAll (IsChampion rs best) ys
  sorted_champions same best greatest =
      let is : totals.tally.best ≡ best = one_best rs totals.tally.best best are.counted.best greatest in
      in_order (IsChampion rs best) totals.champions ys
      (subst (λ (o : Option ℕ). AreExactly (IsChampion rs o) totals.champions) is are.are_champions)
      (λ t champion. champion_table (board_of root rs) best t board champion) same sorted

  pub sorted_ones_champions : IsPermutation totals.ones_champions ys → (ones : Option ℕ) → IsGreatestOnes rs ones → AreAll (IsOnesChampion rs ones) ys
  sorted_ones_champions same ones greatest =
      let is : totals.tally.ones ≡ ones = one_ones rs totals.tally.ones ones are.counted.ones greatest in
      in_order (IsOnesChampion rs ones) totals.ones_champions ys
      (subst (λ (o : Option ℕ). AreExactly (IsOnesChampion rs o) totals.ones_champions) is are.are_ones_champions)
      (λ t champion. ones_champion_table (board_of root rs) ones t board champion) same sorted

  pub sorted_holdouts : IsPermutation totals.holdouts ys → AreAll (IsHoldout rs) ys
  sorted_holdouts same = in_order (IsHoldout rs) totals.holdouts ys are.are_holdouts
      (λ t held_out. marked_table (board_of root rs) t Holdout tree_table_child of_tables board held_out) same sorted

-- How records stand that one board would hold, by their totals.

-- the status is what a tally says of whatever records have it
abbrev pub IsByTally : Tally → Status → Type 0
IsByTally tally status = (root : Packed) (rs : List Recorded) → IsTally root rs tally → IsStatus root rs status

module _ (root : Packed) (rs : List Recorded) (totals : Totals) (status : Status) (below : Below) (tables : OfTables) (claims : Claims) (by : IsByTally totals.tally status) (board : IsBoardOf root rs) (are : AreTotals root rs totals) where
  stands : IsStatus root rs status
  stands = by root rs are.counted

  pub totals_best : (best ones : Option ℕ) → CompleteIsClosed → ClosedIsBest → status ≡ Complete best ones → IsBestOfTable HaltsAt root best
  totals_best best ones closes bests is = complete_best (board_of root rs) status best ones below tables claims closes bests board stands is

  pub totals_ones : (best ones : Option ℕ) → CompleteIsClosed → ClosedIsBestScore → status ≡ Complete best ones → IsBestOfTable Scores root ones
  totals_ones best ones closes bests is = complete_ones (board_of root rs) status best ones below tables claims closes bests board stands is

  pub totals_rado : (n s : ℕ) (ones : Option ℕ) → CompleteIsRado → 1 ≤ n → n ≤ MAX_STATES → root ≡ empty_table n → status ≡ Complete (Some s) ones → IsRado n s
  totals_rado n s ones rado least most root_is is = complete_rado (board_of root rs) status n s ones below tables claims rado board stands least most root_is is

  pub totals_sigma : (n s : ℕ) (best : Option ℕ) → CompleteIsSigma → 1 ≤ n → n ≤ MAX_STATES → root ≡ empty_table n → status ≡ Complete best (Some s) → IsSigma n s
  totals_sigma n s best sigma least most root_is is = complete_sigma (board_of root rs) status n s best below tables claims sigma board stands least most root_is is
