-- What a whole holds and tells, also once a part is added whose numbers fit.
use Rattle.std.proofs.Common.{ℕ, ◌≤◌, Option, Some, None, arith, ◌≡◌, ◌≢◌, ◌+◌, ◌-◌, nat_lt, nat_eq, true, false, cond, List, ◌++◌, inl, inr, ◌⊎◌, ◌↔◌, refl, sym, subst, length-append, [], ◌∷◌, map, get_or, ◌∙◌, ap, Result, Ok, Err, OnOk, OnErr, IfErr, ◌||◌, Bool}
use Rattle.std.proofs.lemmas.Bool.{ltb-true, ltb-false}
use Rattle.std.proofs.lemmas.Bool.Decides.{Decides-eqb}
use Rattle.std.specs.List.{Contains, list_any}
use Rattle.std.proofs.lemmas.List.{map-append}
use Rattle.std.proofs.lemmas.List.Elements.{Contains-push_cases, Contains-get_or}
use Rattle.std.proofs.lemmas.List.Quantifiers.{all_pairs_push}
use Rattle.std.proofs.lemmas.Map.Views.{Contains-from_any}
use Rattle.kind_evidence.specs.declared.verdicts.Verdict.{Verdict}
use Rattle.kind_evidence.specs.declared.verdicts.Verdict.TheVariants.{Halts as HaltsIn, Never}
use Rattle.ledger.specs.declared.counts.Tally.{Tally}
use Rattle.totals.specs.inside.{CountsFit, TalliesFit, most_children, tally_of_one, AddsTotals, IsOfParts}
use Rattle.machine_text.specs.Terms.{Packed, IsTable}
use Rattle.law_tree.specs.Terms.{Mark, Halting, NeverHalting, Holdout, IsOpen}
use Rattle.cert.specs.Terms.{Recorded}
use Rattle.ledger.specs.Terms.{mark_in, IsHeld, IsHoldout, Contents, IsBoard, IsOpenOn, same_table, HaltsAfter, HasOnes, IsHalting, IsGreatestCount, IsGreatestOnes, IsChampion, IsOnesChampion, IsTally}
use Rattle.ledger.proofs.Amounts.{IsGreatestOf, many_same, many_both, many_less}
use Rattle.totals.specs.Totals.{greater_of, with_part, AreExactly, AreTotals, Totals, champions_of_both, totals_with, IsPartOf, joined_with, Collected, IsWhole, AddGives}
use Rattle.totals.proofs.SingleRecords.{exactly_both, exactly_same}
use Rattle.totals.proofs.TrunkAndParts.{never_both, both_marks, one_opens, both_open, all_held, all_open, joined_more}
use Rattle.ledger.proofs.HeldLaws.{first_or_later, first_member, later_member}
use Rattle.totals.specs.declared.whole.PartFault.{PartFault}
use Rattle.totals.specs.declared.whole.PartFault.TheVariants.{NoMemory}
use Rattle.indexmap.specs.IndexSet.{insert_key}
use Rattle.ledger.proofs.Claims.{same_is, same_at}

-- Where the numbers can grow by those of one table, those of one table fit.
pub one_fits : (a : Tally) (v : Option Verdict) (m : ℕ) → CountsFit a → m ≤ most_children → TalliesFit a (tally_of_one v m)
one_fits a None m room few = record { nodes = omega (arith, room.nodes, few); open_count = omega (arith, room.open_count, few); halting = omega (arith, room.halting); never = omega (arith, room.never); holdouts = omega (arith, room.holdouts) }
one_fits a (Some Never) m room few = record { nodes = omega (arith, room.nodes, few); open_count = omega (arith, room.open_count, few); halting = omega (arith, room.halting); never = omega (arith, room.never); holdouts = omega (arith, room.holdouts) }
one_fits a (Some (HaltsIn k s)) m room few = record { nodes = omega (arith, room.nodes, few); open_count = omega (arith, room.open_count, few); halting = omega (arith, room.halting); never = omega (arith, room.never); holdouts = omega (arith, room.holdouts) }

-- What is told of a trunk and of a part comes to what is told of both.

-- the tables with the greatest number
abbrev IsTop : (ℕ → Packed → Type 0) → Option ℕ → Packed → Type 0
IsTop H None t = ⊥
IsTop H (Some s) t = H s t

-- numbers that tables of two kinds have, where no table is of both
module _ (H L M : ℕ → Packed → Type 0) (both : (k : ℕ) (t : Packed) → M k t ↔ (H k t ⊎ L k t)) (apart : (j k : ℕ) (t : Packed) → H j t → L k t → ⊥) where
  greatest_both : (a b : Option ℕ) → IsGreatestOf H a → IsGreatestOf L b → IsGreatestOf M (greater_of a b)
  greatest_both None None x y = λ t k m. elim ((both k t).0 m) [ inl h ↦ x t k h | inr l ↦ y t k l ]
  greatest_both None (Some b) x y = (
    (y.0.0, (both b y.0.0).1 (inr y.0.1)),
    λ t k m. elim ((both k t).0 m) [ inl h ↦ absurd (x t k h) | inr l ↦ y.1 t k l ],
  )
  greatest_both (Some a) None x y = (
    (x.0.0, (both a x.0.0).1 (inl x.0.1)),
    λ t k m. elim ((both k t).0 m) [ inl h ↦ x.1 t k h | inr l ↦ absurd (y t k l) ],
  )
  greatest_both (Some a) (Some b) x y =
      elim (nat_lt a b) as (λ v. nat_lt a b ≡ v → IsGreatestOf M (cond v (Some b) (Some a))) [
        | true ↦ λ less. let low = ltb-true a b less in (
          (y.0.0, (both b y.0.0).1 (inr y.0.1)),
          λ t k m. elim ((both k t).0 m) [ inl h ↦ let at : k ≤ a = x.1 t k h in omega (arith, low) | inr l ↦ y.1 t k l ],
        )
        | false ↦ λ not_less. let low = ltb-false a b not_less in (
          (x.0.0, (both a x.0.0).1 (inl x.0.1)),
          λ t k m. elim ((both k t).0 m) [ inl h ↦ x.1 t k h | inr l ↦ let at : k ≤ b = y.1 t k l in omega (arith, low) ],
        )
      ] refl

  tops_both : (a b : Option ℕ) (xs ys : List Packed) → IsGreatestOf H a → IsGreatestOf L b → AreExactly (IsTop H a) xs → AreExactly (IsTop L b) ys
      → AreExactly (IsTop M (greater_of a b)) (champions_of_both a xs b ys)
  tops_both None None xs ys x y tops also = tops
  tops_both None (Some b) xs ys x y tops also = exactly_same (L b) (M b) ys
      (λ t l. (both b t).1 (inr l))
      (λ t m. elim ((both b t).0 m) [ inl h ↦ absurd (x t b h) | inr l ↦ l ]) also
  tops_both (Some a) None xs ys x y tops also = exactly_same (H a) (M a) xs
      (λ t h. (both a t).1 (inl h))
      (λ t m. elim ((both a t).0 m) [ inl h ↦ h | inr l ↦ absurd (y t a l) ]) tops
  tops_both (Some a) (Some b) xs ys x y tops also =
      elim (nat_lt a b) as (λ v. nat_lt a b ≡ v → AreExactly (IsTop M (cond v (Some b) (Some a))) (cond v ys (cond (nat_eq a b) (xs ++ ys) xs))) [
        | true ↦ λ less. let low = ltb-true a b less in exactly_same (L b) (M b) ys
            (λ t l. (both b t).1 (inr l))
            (λ t m. elim ((both b t).0 m) [ inl h ↦ let at : b ≤ a = x.1 t b h in absurd (omega (arith, low)) | inr l ↦ l ]) also
        | false ↦ λ not_less. let low = ltb-false a b not_less in
            elim (nat_eq a b) as (λ v. nat_eq a b ≡ v → AreExactly (M a) (cond v (xs ++ ys) xs)) [
              | true ↦ λ same. let is : a ≡ b = (Decides-eqb a b).0 same in
                  exactly_both (H a) (L a) (M a) xs ys (both a) (apart a a) tops (subst (λ (n : ℕ). AreExactly (L n) ys) (sym is) also)
              | false ↦ λ other. exactly_same (H a) (M a) xs
                  (λ t h. (both a t).1 (inl h))
                  (λ t m. elim ((both a t).0 m) [
                    | inl h ↦ h
                    | inr l ↦
                        let at : a ≤ b = y.1 t a l in
                        let is : a ≡ b = omega (arith, low) in
                        let same = (Decides-eqb a b).1 is in
                        absurd (cc)
                  ]) tops
            ] refl
      ] refl

-- the greatest of a list of records, and their champions, as numbers of tables
as_count : (rs : List Recorded) (best : Option ℕ) → IsGreatestOf (HaltsAfter rs) best → IsGreatestCount rs best
as_count rs None g = g
as_count rs (Some s) g = g

of_count : (rs : List Recorded) (best : Option ℕ) → IsGreatestCount rs best → IsGreatestOf (HaltsAfter rs) best
of_count rs None g = g
of_count rs (Some s) g = g

as_ones : (rs : List Recorded) (ones : Option ℕ) → IsGreatestOf (HasOnes rs) ones → IsGreatestOnes rs ones
as_ones rs None g = g
as_ones rs (Some s) g = g

of_ones : (rs : List Recorded) (ones : Option ℕ) → IsGreatestOnes rs ones → IsGreatestOf (HasOnes rs) ones
of_ones rs None g = g
of_ones rs (Some s) g = g

as_champions : (rs : List Recorded) (best : Option ℕ) (xs : List Packed) → AreExactly (IsTop (HaltsAfter rs) best) xs → AreExactly (IsChampion rs best) xs
as_champions rs None xs x = exactly_same _ (IsChampion rs None) xs (λ t h. h) (λ t h. h) x
as_champions rs (Some s) xs x = exactly_same _ (IsChampion rs (Some s)) xs (λ t h. h) (λ t h. h) x

of_champions : (rs : List Recorded) (best : Option ℕ) (xs : List Packed) → AreExactly (IsChampion rs best) xs → AreExactly (IsTop (HaltsAfter rs) best) xs
of_champions rs None xs x = exactly_same (IsChampion rs None) _ xs (λ t h. h) (λ t h. h) x
of_champions rs (Some s) xs x = exactly_same (IsChampion rs (Some s)) _ xs (λ t h. h) (λ t h. h) x

as_ones_champions : (rs : List Recorded) (ones : Option ℕ) (xs : List Packed) → AreExactly (IsTop (HasOnes rs) ones) xs → AreExactly (IsOnesChampion rs ones) xs
as_ones_champions rs None xs x = exactly_same _ (IsOnesChampion rs None) xs (λ t h. h) (λ t h. h) x
as_ones_champions rs (Some s) xs x = exactly_same _ (IsOnesChampion rs (Some s)) xs (λ t h. h) (λ t h. h) x

of_ones_champions : (rs : List Recorded) (ones : Option ℕ) (xs : List Packed) → AreExactly (IsOnesChampion rs ones) xs → AreExactly (IsTop (HasOnes rs) ones) xs
of_ones_champions rs None xs x = exactly_same (IsOnesChampion rs None) _ xs (λ t h. h) (λ t h. h) x
of_ones_champions rs (Some s) xs x = exactly_same (IsOnesChampion rs (Some s)) _ xs (λ t h. h) (λ t h. h) x

module _ (root r : Packed) (rs : List Recorded) (is_table : IsTable root) (held : IsHeld root rs) (is_open : IsOpen root (mark_in rs) r) (ps : List Recorded) (part_held : IsHeld r ps) where
  apart_marks : (t : Packed) (m n : Mark) → mark_in rs t ≡ Some m → mark_in ps t ≡ Some n → ⊥
  apart_marks t m n = never_both root r rs is_table held is_open ps part_held t m n

  halts_both : (k : ℕ) (t : Packed) → HaltsAfter (rs ++ ps) k t ↔ (HaltsAfter rs k t ⊎ HaltsAfter ps k t)
  halts_both k t = both_marks root r rs is_table held is_open ps part_held t (Halting k)

  ones_both : (s : ℕ) (t : Packed) → HasOnes (rs ++ ps) s t ↔ (HasOnes rs s t ⊎ HasOnes ps s t)
  ones_both s t = (
    λ h. elim ((halts_both h.0 t).0 h.1) [ inl before ↦ inl (h.0, before, h.2) | inr later ↦ inr (h.0, later, h.2) ],
    λ h. elim h [ inl before ↦ (before.0, (halts_both before.0 t).1 (inl before.1), before.2) | inr later ↦ (later.0, (halts_both later.0 t).1 (inr later.1), later.2) ],
  )

  halting_both : (t : Packed) → (IsHalting rs t ⊎ IsHalting ps t) ↔ IsHalting (rs ++ ps) t
  halting_both t = (
    λ h. elim h [ inl before ↦ (before.0, (halts_both before.0 t).1 (inl before.1)) | inr later ↦ (later.0, (halts_both later.0 t).1 (inr later.1)) ],
    λ h. elim ((halts_both h.0 t).0 h.1) [ inl before ↦ inl (h.0, before) | inr later ↦ inr (h.0, later) ],
  )

  marked_both : (t : Packed) (m : Mark) → ((mark_in rs t ≡ Some m) ⊎ (mark_in ps t ≡ Some m)) ↔ (mark_in (rs ++ ps) t ≡ Some m)
  marked_both t m = let law = both_marks root r rs is_table held is_open ps part_held t m in (law.1, law.0)

  open_both : (t : Packed) → ((IsOpen root (mark_in rs) t × (t ≢ r)) ⊎ IsOpen r (mark_in ps) t) ↔ IsOpen root (mark_in (rs ++ ps)) t
  open_both t = let law = both_open root r rs is_table held is_open ps part_held t in (law.1, law.0)

  best_both : (a b : Option ℕ) → IsGreatestCount rs a → IsGreatestCount ps b → IsGreatestCount (rs ++ ps) (greater_of a b)
  best_both a b x y = as_count (rs ++ ps) (greater_of a b)
      (greatest_both (HaltsAfter rs) (HaltsAfter ps) (HaltsAfter (rs ++ ps)) halts_both (λ j k t h l. apart_marks t (Halting j) (Halting k) h l) a b (of_count rs a x) (of_count ps b y))

  greatest_ones_both : (a b : Option ℕ) → IsGreatestOnes rs a → IsGreatestOnes ps b → IsGreatestOnes (rs ++ ps) (greater_of a b)
  greatest_ones_both a b x y = as_ones (rs ++ ps) (greater_of a b)
      (greatest_both (HasOnes rs) (HasOnes ps) (HasOnes (rs ++ ps)) ones_both (λ j k t h l. apart_marks t (Halting h.0) (Halting l.0) h.1 l.1) a b (of_ones rs a x) (of_ones ps b y))

  pub both_tally : (a b : Tally) → IsTally root rs a → IsTally r ps b → IsTally root (rs ++ ps) (with_part a b)
  both_tally a b x y =
      let less = many_less (IsOpen root (mark_in rs)) r a.open_count x.open_count is_open in
      let opened = many_both (λ q. IsOpen root (mark_in rs) q × (q ≢ r)) (IsOpen r (mark_in ps)) (a.open_count - 1) b.open_count less.0 y.open_count
      (λ t k l. k.1 (one_opens root r rs is_table held is_open ps part_held t k.0 l)) in
      record {
        nodes = omega (arith, x.nodes, y.nodes, less.1, length-append rs ps);
        open_count = many_same _ (IsOpen root (mark_in (rs ++ ps))) (a.open_count - 1 + b.open_count) open_both opened;
        halting = many_same _ (IsHalting (rs ++ ps)) (a.halting + b.halting) halting_both
            (many_both (IsHalting rs) (IsHalting ps) a.halting b.halting x.halting y.halting (λ t h l. apart_marks t (Halting h.0) (Halting l.0) h.1 l.1));
        never = many_same _ (λ t. mark_in (rs ++ ps) t ≡ Some NeverHalting) (a.never + b.never) (λ t. marked_both t NeverHalting)
            (many_both (λ t. mark_in rs t ≡ Some NeverHalting) (λ t. mark_in ps t ≡ Some NeverHalting) a.never b.never x.never y.never (λ t h l. apart_marks t NeverHalting NeverHalting h l));
        holdouts = many_same _ (λ t. mark_in (rs ++ ps) t ≡ Some Holdout) (a.holdouts + b.holdouts) (λ t. marked_both t Holdout)
            (many_both (λ t. mark_in rs t ≡ Some Holdout) (λ t. mark_in ps t ≡ Some Holdout) a.holdouts b.holdouts x.holdouts y.holdouts (λ t h l. apart_marks t Holdout Holdout h l));
        best = best_both a.best b.best x.best y.best;
        ones = greatest_ones_both a.ones b.ones x.ones y.ones;
      }

  pub both_totals : (a b : Totals) → AreTotals root rs a → AreTotals r ps b → AreTotals root (rs ++ ps) (totals_with a b)
  both_totals a b x y = record {
    counted = both_tally a.tally b.tally x.counted y.counted;
    are_champions = as_champions (rs ++ ps) (greater_of a.tally.best b.tally.best) (champions_of_both a.tally.best a.champions b.tally.best b.champions)
        (tops_both (HaltsAfter rs) (HaltsAfter ps) (HaltsAfter (rs ++ ps)) halts_both (λ j k t h l. apart_marks t (Halting j) (Halting k) h l)
        a.tally.best b.tally.best a.champions b.champions (of_count rs a.tally.best x.counted.best) (of_count ps b.tally.best y.counted.best)
        (of_champions rs a.tally.best a.champions x.are_champions) (of_champions ps b.tally.best b.champions y.are_champions));
    are_ones_champions = as_ones_champions (rs ++ ps) (greater_of a.tally.ones b.tally.ones) (champions_of_both a.tally.ones a.ones_champions b.tally.ones b.ones_champions)
        (tops_both (HasOnes rs) (HasOnes ps) (HasOnes (rs ++ ps)) ones_both (λ j k t h l. apart_marks t (Halting h.0) (Halting l.0) h.1 l.1)
        a.tally.ones b.tally.ones a.ones_champions b.ones_champions (of_ones rs a.tally.ones x.counted.ones) (of_ones ps b.tally.ones y.counted.ones)
        (of_ones_champions rs a.tally.ones a.ones_champions x.are_ones_champions) (of_ones_champions ps b.tally.ones b.ones_champions y.are_ones_champions));
    are_holdouts = exactly_both (IsHoldout rs) (IsHoldout ps) (IsHoldout (rs ++ ps)) a.holdouts b.holdouts (λ t. both_marks root r rs is_table held is_open ps part_held t Holdout)
        (λ t h l. apart_marks t Holdout Holdout h l) x.are_holdouts y.are_holdouts;
  }

-- What a whole holds, and what it tells.

-- the board that holds all
abbrev pub joined_board : Contents → List Contents → Contents
joined_board trunk parts = record { root = trunk.root; records = joined_with trunk.records parts; format = trunk.format }

pub whole_is_board : (w : Collected) (parts : List Contents) → IsWhole w parts → IsBoard (joined_board w.trunk parts)
whole_is_board w parts whole = record {
  is_table = whole.trunk_is.is_table;
  in_order = whole.trunk_is.in_order;
  held = all_held w.trunk.root whole.trunk_is.is_table w.trunk.records parts whole.trunk_is.held whole.are_parts;
}

-- a trunk alone
pub trunk_alone : (trunk : Contents) (totals : Totals) → IsBoard trunk → AreTotals trunk.root trunk.records totals → IsWhole (record { trunk = trunk; roots = []; totals = totals }) []
trunk_alone trunk totals board totals_are = record {
  trunk_is = board;
  are_parts = record { each = λ p at. absurd (nothing at); once = λ i j d less below. absurd (omega arith) };
  roots_are = refl;
  totals_are = totals_are;
}
  where
    nothing : {p : Contents} → Contains [] p → ⊥
    nothing (k, below, is) = omega arith

-- a part's root is among the roots
has_root : (parts : List Contents) (p : Contents) → Contains parts p → Contains (map (λ (c : Contents). c.root) parts) p.root
has_root [] p (k, below, is) = absurd (omega arith)
has_root (q ∷ parts) p at = elim (first_or_later q parts p at) [
  | inl same ↦ first_member q.root p.root (map (λ (c : Contents). c.root) parts) (ap (λ (c : Contents). c.root) same)
  | inr later ↦ later_member q.root (map (λ (c : Contents). c.root) parts) p.root (has_root parts p later)
]

-- the root of a part that isn't added yet is open by all together
still_open : (w : Collected) (p : Contents) (parts : List Contents) → IsWhole w parts → IsOpenOn w.trunk p.root → (Contains w.roots p.root → ⊥)
    → IsOpen w.trunk.root (mark_in (joined_with w.trunk.records parts)) p.root
still_open w p parts whole is_open new =
    (all_open w.trunk.root whole.trunk_is.is_table w.trunk.records parts p.root whole.trunk_is.held whole.are_parts).1
    (inl (is_open, λ q at (e : p.root ≡ q.root). new (subst (λ (l : List Packed). Contains l p.root) (sym whole.roots_are) (subst (Contains (map (λ (c : Contents). c.root) parts)) (sym e) (has_root parts q at)))))

-- one part more
pub whole_more : (w : Collected) (p : Contents) (totals : Totals) (parts : List Contents) → IsWhole w parts → IsBoard p → IsOpenOn w.trunk p.root → (Contains w.roots p.root → ⊥) → AreTotals p.root p.records totals
    → IsWhole (record { trunk = w.trunk; roots = w.roots ++ (p.root ∷ []); totals = totals_with w.totals totals }) (parts ++ (p ∷ []))
whole_more w p totals parts whole board is_open new its =
    let root = w.trunk.root in
    let rs = joined_with w.trunk.records parts in
    let all = whole_is_board w parts whole in
    let both = both_totals root p.root rs all.is_table all.held (still_open w p parts whole is_open new) p.records board.held w.totals totals whole.totals_are its in record {
      trunk_is = whole.trunk_is;
      are_parts = record {
        each = λ q at. elim (Contains-push_cases parts p q at) [
          | inl before ↦ whole.are_parts.each q before
          | inr same ↦ subst (λ (c : Contents). IsPartOf root w.trunk.records c.root c.records) same (record { is_open = is_open; held = board.held })
        ];
        once = all_pairs_push (λ (a b : Contents). a.root ≢ b.root) parts p whole.are_parts.once
            (λ k d below (e : (get_or parts k d).root ≡ p.root). new (subst (λ (l : List Packed). Contains l p.root) (sym whole.roots_are)
            (subst (Contains (map (λ (c : Contents). c.root) parts)) e (has_root parts (get_or parts k d) (Contains-get_or parts k d below)))));
      };
      roots_are = ap (λ (l : List Packed). l ++ (p.root ∷ [])) whole.roots_are ∙ sym (map-append (λ (c : Contents). c.root) parts (p ∷ []));
      totals_are = subst (λ (l : List Recorded). AreTotals root l (totals_with w.totals totals)) (sym (joined_more w.trunk.records parts p)) both;
    }

-- so there is a table to be counted off
pub room_to_count : (w : Collected) (p : Contents) (parts : List Contents) → IsWhole w parts → IsOpenOn w.trunk p.root → (Contains w.roots p.root → ⊥)
    → (1 ≤ w.totals.tally.nodes) × (1 ≤ w.totals.tally.open_count)
room_to_count w p parts whole is_open new =
    let rs = joined_with w.trunk.records parts in
    let counted = whole.totals_are.counted in
    let less = many_less (IsOpen w.trunk.root (mark_in rs)) p.root w.totals.tally.open_count counted.open_count (still_open w p parts whole is_open new) in
    (omega (arith, counted.nodes, less.1), less.1)

-- What becomes of a whole to which a part is added.

-- of what a whole has come to, and of what it was
abbrev pub with_roots : Collected → List Packed → Totals → Collected
with_roots w roots totals = record { trunk = w.trunk; roots = roots; totals = totals }

-- there is a table to be counted off
pub room_for : (w : Collected) (p : Contents) → IsOfParts w → IsOpenOn w.trunk p.root → (Contains w.roots p.root → ⊥) → (1 ≤ w.totals.tally.nodes) × (1 ≤ w.totals.tally.open_count)
room_for w p some opened fresh = room_to_count w p some.0 some.1 opened fresh

unchanged : (w : Collected) (roots : List Packed) (totals : Totals) → roots ≡ w.roots → totals ≡ w.totals → with_roots w roots totals ≡ w
unchanged w roots totals same_roots same_totals =
    ap (λ (l : List Packed). with_roots w l totals) same_roots ∙ ap (λ (t : Totals). with_roots w w.roots t) same_totals

grown : (w : Collected) (p : Contents) (roots : List Packed) (totals : Totals) (parts : List Contents) → IsBoard p → IsOpenOn w.trunk p.root → (Contains w.roots p.root → ⊥)
    → roots ≡ w.roots ++ (p.root ∷ []) → AddsTotals p w.totals totals → IsWhole w parts → IsWhole (with_roots w roots totals) (parts ++ (p ∷ []))
grown w p roots totals parts board opened fresh roots_are adds whole =
    subst (λ (t : Totals). IsWhole (with_roots w roots t) (parts ++ (p ∷ []))) (sym adds.sum)
    (subst (λ (l : List Packed). IsWhole (with_roots w l (totals_with w.totals adds.its)) (parts ++ (p ∷ []))) (sym roots_are)
    (whole_more w p adds.its parts whole board opened fresh adds.are))

pub part_added : (w : Collected) (p : Contents) (result : Result (Unit {0}) PartFault) (roots : List Packed) (totals : Totals) → IsBoard p → IsOpenOn w.trunk p.root → (Contains w.roots p.root → ⊥)
    → OnOk result (roots ≡ w.roots ++ (p.root ∷ [])) → OnOk result (AddsTotals p w.totals totals) → OnErr result (roots ≡ w.roots) → OnErr result (totals ≡ w.totals)
    → IfErr result (λ (f : PartFault). f ≡ NoMemory) → AddGives w p result (with_roots w roots totals)
part_added w p (Ok done) roots totals board opened fresh roots_are adds same_roots same_totals fault =
    (opened, fresh, refl, λ parts whole. grown w p roots totals parts board opened fresh roots_are adds whole)
part_added w p (Err f) roots totals board opened fresh roots_are adds same_roots same_totals fault =
    subst (λ (g : PartFault). AddGives w p (Err g) (with_roots w roots totals)) (sym fault) (opened, fresh, unchanged w roots totals same_roots same_totals)

-- and it is the whole of some parts still
pub still_whole : (w : Collected) (p : Contents) (result : Result (Unit {0}) PartFault) (roots : List Packed) (totals : Totals) → IsOfParts w → IsBoard p → IsOpenOn w.trunk p.root → (Contains w.roots p.root → ⊥)
    → OnOk result (roots ≡ w.roots ++ (p.root ∷ [])) → OnOk result (AddsTotals p w.totals totals) → OnErr result (roots ≡ w.roots) → OnErr result (totals ≡ w.totals)
    → IsOfParts (with_roots w roots totals)
still_whole w p (Ok done) roots totals some board opened fresh roots_are adds same_roots same_totals =
    (some.0 ++ (p ∷ []), grown w p roots totals some.0 board opened fresh roots_are adds some.1)
still_whole w p (Err f) roots totals some board opened fresh roots_are adds same_roots same_totals = subst IsOfParts (sym (unchanged w roots totals same_roots same_totals)) some

-- The roots of the parts that were added, as a set that keeps their order.
or_later : (a b : Bool) → b ≡ true → (a || b) ≡ true
or_later true b h = refl
or_later false b h = h

found : (roots : List Packed) (t : Packed) → Contains roots t → list_any (same_table t) roots ≡ true
found [] t (k, below, is) = absurd (omega arith)
found (x ∷ xs) t at = elim (first_or_later x xs t at) [
  | inl same ↦ ap (λ (b : Bool). b || list_any (same_table t) xs) (same_at t x (sym same))
  | inr later ↦ or_later (same_table t x) (list_any (same_table t) xs) (found xs t later)
]

there : (roots : List Packed) (t : Packed) → list_any (same_table t) roots ≡ true → Contains roots t
there roots t has = Contains-from_any {eq = same_table} same_is t roots has

-- what the set says of a table
pub is_root : (roots : List Packed) (t : Packed) (r : Bool) → r ≡ list_any (same_table t) roots → (r ≡ true) ↔ Contains roots t
is_root roots t r is = (λ has. there roots t (sym is ∙ has), λ at. is ∙ found roots t at)

-- a root that isn't there goes last
pub put_last : (roots : List Packed) (t : Packed) → (Contains roots t → ⊥) → insert_key same_table roots t ≡ roots ++ (t ∷ [])
put_last roots t fresh =
    elim (list_any (same_table t) roots) as (λ v. list_any (same_table t) roots ≡ v → cond v roots (roots ++ (t ∷ [])) ≡ roots ++ (t ∷ [])) [
      | true ↦ λ has. absurd (fresh (there roots t has))
      | false ↦ λ none. refl
    ] refl
