-- A complete board holds the tree of its root; and what is so of all lists of the same tables.
use Rattle.std.proofs.Common.{◌≡◌, ℕ, suc, true, filter, ◌+◌, ◌≤◌, List, [], ◌∷◌, Option, Some, None, option_map, ◌↔◌, inl, inr, refl, sym, ◌∙◌, ap, subst, length, get_or, arith}
use Rattle.std.specs.List.{Contains}
use Rattle.std.specs.Ordering.{nat_cmp}
use Rattle.std.specs.declared.cmp.Ordering.TheVariants.{Less}
use Rattle.std.specs.Cmp.Lexicographic.{slice_cmp, nat_list_cmp_total}
use Rattle.machine_text.specs.Terms.{Packed, entry_of, text_of}
use Rattle.law_turing.specs.Terms.{Machine, HaltsAt, Never, HaltsWith}
use Rattle.law_turing.proofs.RunLaws.{halts_with, score_is}
use Rattle.law_tree.specs.Terms.{Scores, Mark, Halting, NeverHalting, IsTrueMark, AreTrueMarks, IsVerdict, IsComplete, InTableTree, IsGreatestInTables}
use Rattle.law_tree.proofs.TableLaws.{tree_alike, tree_table_child, one_mark, closed_verdict, complete_closed}
use Rattle.cert.proofs.Claims.{standing_is_true}
use Rattle.cert.specs.Terms.{Claim, Recorded}
use Rattle.ledger.specs.Records.{claim_in, mark_in, mark_of, IsHoldout, Contents, IsBoard}
use Rattle.ledger.specs.Tally.{HaltsAfter, HasOnes, IsHalting, IsNeverHalting, IsGreatestCount, IsGreatestOnes, IsChampion, IsOnesChampion, IsTally, AreAll, AreSoMany, AreInTextOrder, IsTreeTally, IsTreeChampion, IsTreeOnesChampion}
use Rattle.ledger.specs.declared.counts.Tally.{Tally}
pub use Rattle.ledger.proofs.Amounts.{as_many}
use Rattle.ledger.proofs.Amounts.{many_same, none_of_kind}
use Rattle.ledger.proofs.HeldLaws.{held_apart, first_or_later, later_member, first_member, claim_member, member_claim}
use Rattle.ledger.proofs.Numbers.{number_of_kind}
use Rattle.ledger.proofs.OpenLaws.{recorded_in_tree}
use Rattle.ledger.proofs.Sets.{nobody, never_before_itself}
use Rattle.ledger.proofs.BoardLaws.{OfTables, marked_in_tree}
use Rattle.ledger.proofs.Completeness.{true_marks}

of_tables : OfTables
of_tables p t is_table inside = let alike = tree_alike p t is_table inside in (alike.is_table, alike.states)

pub board_marks : (b : Contents) → IsBoard b → AreTrueMarks (mark_in b.records)
board_marks b board = true_marks b tree_table_child of_tables standing_is_true board

-- a verdict that is true of a table of the tree is the recorded one
recorded_verdict : (b : Contents) (t : Packed) (m : Mark) → IsBoard b → IsComplete b.root (mark_in b.records) → InTableTree b.root t → IsTrueMark t (Some m) → IsVerdict (Some m) → mark_in b.records t ≡ Some m
recorded_verdict b t m board complete inside is verdict =
    let marks = board_marks b board in
    let closed = complete_closed b.root (mark_in b.records) marks complete in
    one_mark t (mark_in b.records t) (Some m) (marks t) is (closed_verdict b.root (mark_in b.records) marks b.root t closed inside) verdict

pub all_halting : (b : Contents) (t : Packed) (k : ℕ) → IsBoard b → IsComplete b.root (mark_in b.records) → HaltsAfter b.records k t ↔ (InTableTree b.root t × HaltsAt (entry_of t) k)
all_halting b t k board complete = (
  λ is. (marked_in_tree b t (Halting k) tree_table_child board is, subst (IsTrueMark t) is (board_marks b board t)),
  λ h. recorded_verdict b t (Halting k) board complete h.0 h.1 tt,
)

pub all_never : (b : Contents) (t : Packed) → IsBoard b → IsComplete b.root (mark_in b.records) → IsNeverHalting b.records t ↔ (InTableTree b.root t × Never (entry_of t))
all_never b t board complete = (
  λ is. (marked_in_tree b t NeverHalting tree_table_child board is, subst (IsTrueMark t) is (board_marks b board t)),
  λ h. recorded_verdict b t NeverHalting board complete h.0 h.1 tt,
)

-- the order of texts is strict
abbrev Precedes : Packed → Packed → Type 0
Precedes a b = slice_cmp nat_cmp (text_of a) (text_of b) ≡ Less

before_all : (x : Packed) (xs : List Packed) (y : Packed) → AreInTextOrder (x ∷ xs) → Contains xs y → Precedes x y
before_all x xs y rising at =
    let place = member_place xs y at in
    subst (Precedes x) place.2 (rising 0 (suc place.0) x (omega arith) (omega (arith, place.1)))
  where
    member_place : (xs : List Packed) (y : Packed) → Contains xs y → (k : ℕ) × (k + 1 ≤ length xs) × (get_or xs k x ≡ y)
    member_place [] y at = absurd (nobody at)
    member_place (z ∷ zs) y at = elim (first_or_later z zs y at) [
      | inl same ↦ (0, omega arith, same)
      | inr later ↦ let place = member_place zs y later in (suc place.0, omega (arith, place.1), place.2)
    ]

later_rising : (x : Packed) (xs : List Packed) → AreInTextOrder (x ∷ xs) → AreInTextOrder xs
later_rising x xs rising = λ i j d less below. rising (suc i) (suc j) d (omega arith) (omega arith)

same_first : (x y : Packed) (xs ys : List Packed) → AreInTextOrder (x ∷ xs) → AreInTextOrder (y ∷ ys) → Contains (y ∷ ys) x → Contains (x ∷ xs) y → x ≡ y
same_first x y xs ys rising also x_there y_there = elim (first_or_later y ys x x_there) [
  | inl same ↦ sym same
  | inr later ↦ elim (first_or_later x xs y y_there) [
    | inl same ↦ same
    | inr after ↦
        absurd (never_before_itself x (nat_list_cmp_total.trans (text_of x) (text_of y) (text_of x) (before_all x xs y rising after) (before_all y ys x also later)))
  ]
]

-- a member of the one that isn't its first is one of the other's later ones
later_there : (x y : Packed) (xs ys : List Packed) → x ≡ y → AreInTextOrder (x ∷ xs) → ((t : Packed) → Contains (x ∷ xs) t → Contains (y ∷ ys) t) → (t : Packed) → Contains xs t → Contains ys t
later_there x y xs ys same rising to t at = elim (first_or_later y ys t (to t (later_member x xs t at))) [
  | inl first ↦ absurd (never_before_itself x (subst (Precedes x) (sym (same ∙ first)) (before_all x xs t rising at)))
  | inr later ↦ later
]

one_order : (xs ys : List Packed) → AreInTextOrder xs → AreInTextOrder ys → ((t : Packed) → Contains xs t → Contains ys t) → ((t : Packed) → Contains ys t → Contains xs t) → xs ≡ ys
one_order [] [] rising also to from = refl
one_order [] (y ∷ ys) rising also to from = absurd (nobody (from y (first_member y y ys refl)))
one_order (x ∷ xs) [] rising also to from = absurd (nobody (to x (first_member x x xs refl)))
one_order (x ∷ xs) (y ∷ ys) rising also to from =
    let same = same_first x y xs ys rising also (to x (first_member x x xs refl)) (from y (first_member y y ys refl)) in
    let rest = one_order xs ys (later_rising x xs rising) (later_rising y ys also) (later_there x y xs ys same rising to) (later_there y x ys xs (sym same) also from) in
    ap (λ (p : Packed). p ∷ xs) same ∙ ap (λ (l : List Packed). y ∷ l) rest

pub one_list : (K L : Packed → Type 0) (xs ys : List Packed) → ((t : Packed) → K t ↔ L t) → AreAll K xs → AreAll L ys → xs ≡ ys
one_list K L xs ys same x y = one_order xs ys x.rising y.rising
    (λ t at. (y.exact t).1 ((same t).0 ((x.exact t).0 at)))
    (λ t at. (x.exact t).1 ((same t).1 ((y.exact t).0 at)))

-- the records of a complete board are of the tables of the tree
all_pass : (rs : List Recorded) → filter (λ (r : Recorded). true) rs ≡ rs
all_pass [] = refl
all_pass (r ∷ rs) = ap (λ (l : List Recorded). r ∷ l) (all_pass rs)

claimed_there : (b : Contents) (t : Packed) → IsBoard b → IsComplete b.root (mark_in b.records) → InTableTree b.root t → (c : Claim) × (claim_in b.records t ≡ Some c)
claimed_there b t board complete inside =
    let marks = board_marks b board in
    let closed = complete_closed b.root (mark_in b.records) marks complete in
    some_claim (claim_in b.records t) (closed_verdict b.root (mark_in b.records) marks b.root t closed inside)
  where
    some_claim : (o : Option Claim) → IsVerdict (option_map mark_of o) → (c : Claim) × (o ≡ Some c)
    some_claim None verdict = absurd verdict
    some_claim (Some c) verdict = (c, refl)

tree_number : (b : Contents) → IsBoard b → IsComplete b.root (mark_in b.records) → AreSoMany (InTableTree b.root) (length b.records)
tree_number b board complete =
    let apart = held_apart b.root b.records board.held in
    subst (λ (l : List Recorded). AreSoMany (InTableTree b.root) (length l)) (all_pass b.records)
    (number_of_kind (InTableTree b.root) (λ (r : Recorded). true) b.records apart
    (λ r at pass. recorded_in_tree b.root b.records r.table r.claim tree_table_child board.held (member_claim b.records r apart at))
    (λ t inside. let c = claimed_there b t board complete inside in (record { table = t; claim = c.0 }, claim_member b.records t c.0 c.1, refl, refl)))

greatest_in_tree : (b : Contents) (best : Option ℕ) → IsBoard b → IsComplete b.root (mark_in b.records) → IsGreatestCount b.records best → IsGreatestInTables HaltsAt b.root best
greatest_in_tree b None board complete none = λ t k inside halts. none t k ((all_halting b t k board complete).1 (inside, halts))
greatest_in_tree b (Some s) board complete greatest =
    let one = (all_halting b greatest.0.0 s board complete).0 greatest.0.1 in (
      (greatest.0.0, one.0, one.1),
      λ t k inside halts. greatest.1 t k ((all_halting b t k board complete).1 (inside, halts)),
    )

pub all_ones : (b : Contents) (t : Packed) (s : ℕ) → IsBoard b → IsComplete b.root (mark_in b.records) → HasOnes b.records s t ↔ (InTableTree b.root t × Scores (entry_of t) s)
all_ones b t s board complete = (
  λ (k, halts, is).
      let it = (all_halting b t k board complete).0 halts in
      (it.0, (k, subst (HaltsWith (entry_of t) k) (sym is) (halts_with (entry_of t) k it.1))),
  λ (inside, (k, with_score)). (k, (all_halting b t k board complete).1 (inside, with_score.halts), score_is (entry_of t) k s with_score),
)

greatest_ones_in_tree : (b : Contents) (ones : Option ℕ) → IsBoard b → IsComplete b.root (mark_in b.records) → IsGreatestOnes b.records ones → IsGreatestInTables Scores b.root ones
greatest_ones_in_tree b None board complete none = λ t s inside scores. none t s ((all_ones b t s board complete).1 (inside, scores))
greatest_ones_in_tree b (Some best) board complete greatest =
    let one = (all_ones b greatest.0.0 best board complete).0 greatest.0.1 in (
      (greatest.0.0, one.0, one.1),
      λ t s inside scores. greatest.1 t s ((all_ones b t s board complete).1 (inside, scores)),
    )

pub whole_tally : (b : Contents) (tally : Tally) → IsBoard b → IsComplete b.root (mark_in b.records) → IsTally b.root b.records tally → IsTreeTally b.root tally
whole_tally b tally board complete counted =
    let none_open = none_of_kind _ tally.open_count counted.open_count complete.none_open in
    let all : length b.records ≡ tally.nodes = omega (arith, counted.nodes, none_open) in record {
      nodes = subst (AreSoMany (InTableTree b.root)) all (tree_number b board complete);
      halting = many_same (IsHalting b.records) _ tally.halting (λ t. (
        λ h. let it = (all_halting b t h.0 board complete).0 h.1 in (it.0, (h.0, it.1)),
        λ h. (h.1.0, (all_halting b t h.1.0 board complete).1 (h.0, h.1.1)),
      )) counted.halting;
      never = many_same (IsNeverHalting b.records) _ tally.never (λ t. all_never b t board complete) counted.never;
      holdouts = none_of_kind (IsHoldout b.records) tally.holdouts counted.holdouts complete.no_holdout;
      open_count = none_open;
      best = greatest_in_tree b tally.best board complete counted.best;
      ones = greatest_ones_in_tree b tally.ones board complete counted.ones;
    }

whole_champion : (b : Contents) (best : Option ℕ) (t : Packed) → IsBoard b → IsComplete b.root (mark_in b.records) → IsChampion b.records best t ↔ IsTreeChampion b.root best t
whole_champion b None t board complete = (λ f. f, λ f. f)
whole_champion b (Some s) t board complete = all_halting b t s board complete

pub whole_champions : (b : Contents) (best : Option ℕ) (tables : List Packed) → IsBoard b → IsComplete b.root (mark_in b.records) → AreAll (IsChampion b.records best) tables → AreAll (IsTreeChampion b.root best) tables
whole_champions b best tables board complete all = record {
  exact = λ t. let same = whole_champion b best t board complete in (λ at. same.0 ((all.exact t).0 at), λ h. (all.exact t).1 (same.1 h));
  rising = all.rising;
}

whole_ones_champion : (b : Contents) (ones : Option ℕ) (t : Packed) → IsBoard b → IsComplete b.root (mark_in b.records) → IsOnesChampion b.records ones t ↔ IsTreeOnesChampion b.root ones t
whole_ones_champion b None t board complete = (λ f. f, λ f. f)
whole_ones_champion b (Some s) t board complete = all_ones b t s board complete

pub whole_ones_champions : (b : Contents) (ones : Option ℕ) (tables : List Packed) → IsBoard b → IsComplete b.root (mark_in b.records) → AreAll (IsOnesChampion b.records ones) tables
    → AreAll (IsTreeOnesChampion b.root ones) tables
whole_ones_champions b ones tables board complete all = record {
  exact = λ t. let same = whole_ones_champion b ones t board complete in (λ at. same.0 ((all.exact t).0 at), λ h. (all.exact t).1 (same.1 h));
  rising = all.rising;
}

-- one tree, one tally
one_best : (V : Machine → ℕ → Type 0) (root : Packed) (a b : Option ℕ) → IsGreatestInTables V root a → IsGreatestInTables V root b → a ≡ b
one_best V root None None x y = refl
one_best V root None (Some s) x y = absurd (x y.0.0 s y.0.1 y.0.2)
one_best V root (Some r) None x y = absurd (y x.0.0 r x.0.1 x.0.2)
one_best V root (Some r) (Some s) x y =
    let low : r ≤ s = y.1 x.0.0 r x.0.1 x.0.2 in let high : s ≤ r = x.1 y.0.0 s y.0.1 y.0.2 in ap (λ (n : ℕ). Some n) (omega (arith, low, high))

abbrev told : ℕ → ℕ → ℕ → ℕ → ℕ → Option ℕ → Option ℕ → Tally
told nodes halting never holdouts open_count best ones = record { nodes = nodes; halting = halting; never = never; holdouts = holdouts; open_count = open_count; best = best; ones = ones }

pub one_tally : (root : Packed) (a b : Tally) → IsTreeTally root a → IsTreeTally root b → a ≡ b
one_tally root a b x y =
    let nodes = as_many _ _ a.nodes b.nodes (λ t. (λ h. h, λ h. h)) x.nodes y.nodes in
    let halting = as_many _ _ a.halting b.halting (λ t. (λ h. h, λ h. h)) x.halting y.halting in
    let never = as_many _ _ a.never b.never (λ t. (λ h. h, λ h. h)) x.never y.never in
    let holdouts = x.holdouts ∙ sym y.holdouts in
    let open_count = x.open_count ∙ sym y.open_count in
    let best = one_best HaltsAt root a.best b.best x.best y.best in
    let ones = one_best Scores root a.ones b.ones x.ones y.ones in
    ap (λ (n : ℕ). told n a.halting a.never a.holdouts a.open_count a.best a.ones) nodes
    ∙ (ap (λ (n : ℕ). told b.nodes n a.never a.holdouts a.open_count a.best a.ones) halting
    ∙ (ap (λ (n : ℕ). told b.nodes b.halting n a.holdouts a.open_count a.best a.ones) never
    ∙ (ap (λ (n : ℕ). told b.nodes b.halting b.never n a.open_count a.best a.ones) holdouts
    ∙ (ap (λ (n : ℕ). told b.nodes b.halting b.never b.holdouts n a.best a.ones) open_count
    ∙ (ap (λ (s : Option ℕ). told b.nodes b.halting b.never b.holdouts b.open_count s a.ones) best
    ∙ ap (λ (s : Option ℕ). told b.nodes b.halting b.never b.holdouts b.open_count b.best s) ones)))))

pub one_list_of_champions : (root : Packed) (best : Option ℕ) (xs ys : List Packed) → AreAll (IsTreeChampion root best) xs → AreAll (IsTreeChampion root best) ys → xs ≡ ys
one_list_of_champions root best xs ys x y = one_list (IsTreeChampion root best) (IsTreeChampion root best) xs ys (λ t. (λ h. h, λ h. h)) x y

pub one_list_of_ones_champions : (root : Packed) (ones : Option ℕ) (xs ys : List Packed) → AreAll (IsTreeOnesChampion root ones) xs → AreAll (IsTreeOnesChampion root ones) ys → xs ≡ ys
one_list_of_ones_champions root ones xs ys x y = one_list (IsTreeOnesChampion root ones) (IsTreeOnesChampion root ones) xs ys (λ t. (λ h. h, λ h. h)) x y
