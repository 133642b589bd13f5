-- What a walk holds and tells once it goes on by a table.
use Rattle.std.proofs.Common.{◌≡◌, ◌≢◌, ◌≤◌, List, [], ◌∷◌, ◌++◌, length, subst, arith, ℕ, ◌+◌, ◌-◌, take, get_or, Option, Some, None, option_map, Result, Ok, Err, OnOk, OnErr, inl, inr, refl, sym, ◌∙◌, ap, append-nil, append_assoc, length-append, reverse}
use Rattle.std.specs.Prelude.{slice_get}
use Rattle.std.specs.List.{All, Contains, AllPairs, insert}
use Rattle.std.specs.declared.alloc.AllocError.{AllocError as NoMemory}
use Rattle.std.proofs.Math.Seq.{take-length}
use Rattle.std.proofs.lemmas.List.{take_more, reverse-append}
use Rattle.std.proofs.lemmas.List.Elements.{All-nil, All-cons, All-append}
use Rattle.std.proofs.lemmas.Option.{slice_get_within, get_or_from_slice_get}
use Rattle.std.specs.List.Sorted.{IsPermutation}
use Rattle.std.proofs.lemmas.List.Edits.{insert-append_right}
use Rattle.std.proofs.lemmas.List.Sorted.{Contains-permutation, IsPermutation-reverse, IsPermutation-sym}
use Rattle.machine_text.specs.Terms.{Packed, IsTable, entry_of}
use Rattle.law_tree.specs.Terms.{IsOpen, Mark, Halting, NeverHalting, Holdout, InOrder}
use Rattle.cert.specs.Terms.{Claim, Recorded, shown_by, IsCertified, IsShownBy, scored, owned_claim, owned_recorded}
use Rattle.ledger.specs.Terms.{HasScore, IsHeld, mark_in, IsHoldout, mark_of, IsHalting, IsNeverHalting, IsChampion, IsOnesChampion}
use Rattle.ledger.proofs.Amounts.{many_less, none_many}
use Rattle.totals.specs.Totals.{AreExactly, AreTotals, Totals, totals_with, Walked, IsWalked, IsAnswered, WalksOn}
use Rattle.totals.proofs.TrunkAndParts.{both_held, both_open, one_opens}
use Rattle.totals.proofs.Wholes.{both_totals}
use Rattle.totals.specs.inside.{totals_of_one, IsLast, IsOfRecords, TakesLast, totals_of_none}
use Rattle.totals.proofs.SingleRecords.{exactly_both, last_of_kind, without_last, alone, held_alone, totals_alone, opened_alone, many_of, exactly_one, exactly_none}
use Rattle.kind_evidence.specs.declared.verdicts.Verdict.{Verdict}
use Rattle.law_tree.proofs.TableLaws.{tree_table_child, tree_alike}
use Rattle.cert.specs.declared.record.OwnedRecord.{OwnedRecord}
use Rattle.cert.specs.declared.judgement.Judged.{Judged}
use Rattle.cert.proofs.Claims.{score_shown}
use Rattle.ledger.proofs.Claims.{claim_none}
use Rattle.ledger.proofs.HeldLaws.{scored_has}
use Rattle.ledger.proofs.OpenLaws.{on_ok, open_in_tree}
use Rattle.ledger.proofs.BoardLaws.{Below, KeepsOrder, open_in_order}
use Rattle.totals.proofs.ToldRecords.{board_of}
use Rattle.ledger.proofs.Sets.{permuted_once}

-- A walk goes on by one table.

-- the table on top is open
pub top_open : (w : Walked) (rs : List Recorded) (below : List Packed) (t : Packed) → IsWalked w rs → w.ahead ≡ below ++ (t ∷ []) → IsOpen w.root (mark_in rs) t
top_open w rs below t walked top = last_of_kind (IsOpen w.root (mark_in rs)) below t (subst (AreExactly (IsOpen w.root (mark_in rs))) top walked.are_open)

-- records that are held from it come behind the others, what is open by them in its place, and their totals to the totals
pub part_walked : (w : Walked) (rs : List Recorded) (below : List Packed) (t : Packed) (ps : List Recorded) (found : List Packed) (totals : Totals) → IsWalked w rs → w.ahead ≡ below ++ (t ∷ [])
    → IsHeld t ps → AreExactly (IsOpen t (mark_in ps)) found → AreTotals t ps totals
    → IsWalked (record { root = w.root; ahead = below ++ found; totals = totals_with w.totals totals }) (rs ++ ps)
part_walked w rs below t ps found totals walked top held opened are =
    let board = walked.is_board in
    let is_open = top_open w rs below t walked top in
    let others = without_last (IsOpen w.root (mark_in rs)) below t (subst (AreExactly (IsOpen w.root (mark_in rs))) top walked.are_open) in record {
      is_board = record { is_table = board.is_table; in_order = board.in_order; held = both_held w.root t rs board.is_table board.held is_open ps held };
      are_open = exactly_both (λ q. IsOpen w.root (mark_in rs) q × (q ≢ t)) (IsOpen t (mark_in ps)) (IsOpen w.root (mark_in (rs ++ ps))) below found
          (λ q. both_open w.root t rs board.is_table board.held is_open ps held q)
          (λ q k l. k.1 (one_opens w.root t rs board.is_table board.held is_open ps held q k.0 l)) others opened;
      totals_are = both_totals w.root t rs board.is_table board.held is_open ps held w.totals totals walked.totals_are are;
    }

-- so does its record alone
pub one_walked : (w : Walked) (rs : List Recorded) (below found : List Packed) (t : Packed) (c : Claim) → IsWalked w rs → w.ahead ≡ below ++ (t ∷ [])
    → IsCertified (record { table = t; claim = c }) → HasScore (record { table = t; claim = c }) → AreExactly (IsOpen t (mark_in (alone t c))) found
    → IsWalked (record { root = w.root; ahead = below ++ found; totals = totals_with w.totals (totals_of_one t (shown_by c t) (length found)) }) (rs ++ alone t c)
one_walked w rs below found t c walked top certified scored opened =
    part_walked w rs below t (alone t c) found (totals_of_one t (shown_by c t) (length found)) walked top (held_alone t c certified scored) opened (totals_alone t c found opened)

-- and a walk of its subtree
pub walk_walked : (w p : Walked) (rs ps : List Recorded) (below : List Packed) → IsWalked w rs → w.ahead ≡ below ++ (p.root ∷ []) → IsWalked p ps
    → IsWalked (record { root = w.root; ahead = below ++ p.ahead; totals = totals_with w.totals p.totals }) (rs ++ ps)
walk_walked w p rs ps below walked top part = part_walked w rs below p.root ps p.ahead p.totals walked top part.is_board.held part.are_open part.totals_are

-- so there is a table to be counted off
pub some_counted : (w : Walked) (rs : List Recorded) (below : List Packed) (t : Packed) → IsWalked w rs → w.ahead ≡ below ++ (t ∷ []) → (1 ≤ w.totals.tally.nodes) × (1 ≤ w.totals.tally.open_count)
some_counted w rs below t walked top =
    let counted = walked.totals_are.counted in
    let less = many_less (IsOpen w.root (mark_in rs)) t w.totals.tally.open_count counted.open_count (top_open w rs below t walked top) in
    (omega (arith, counted.nodes, less.1), less.1)

-- What a walk holds once it goes on, and what it tells.

-- at the beginning the root alone is open
none_marked : (t : Packed) (m : Mark) → mark_in [] t ≡ Some m → ⊥
none_marked t m is = let none = ap (option_map mark_of) (claim_none t) in cc

open_first : (root q : Packed) → IsOpen root (mark_in []) q → q ≡ root
open_first root q opened = elim opened.place [ inl e ↦ e | inr w ↦ absurd (none_marked w.0 (Halting w.1) w.2) ]

root_open : (root : Packed) → IsOpen root (mark_in []) root
root_open root = record { unmarked = ap (option_map mark_of) (claim_none root); place = inl refl }

totals_none : (root : Packed) → AreTotals root [] totals_of_none
totals_none root = record {
  counted = record {
    nodes = refl;
    open_count = many_of (IsOpen root (mark_in [])) (root ∷ []) (exactly_one (IsOpen root (mark_in [])) root (root_open root) (open_first root));
    halting = none_many (IsHalting []) (λ t h. none_marked t (Halting h.0) h.1);
    never = none_many (IsNeverHalting []) (λ t is. none_marked t NeverHalting is);
    holdouts = none_many (IsHoldout []) (λ t is. none_marked t Holdout is);
    best = λ t k is. none_marked t (Halting k) is;
    ones = λ t s h. none_marked t (Halting h.0) h.1;
  };
  are_champions = exactly_none (IsChampion [] None) (λ t h. h);
  are_ones_champions = exactly_none (IsOnesChampion [] None) (λ t h. h);
  are_holdouts = exactly_none (IsHoldout []) (λ t is. none_marked t Holdout is);
}

pub walk_begins : (root : Packed) (ahead : List Packed) (totals : Totals) → IsTable root → (u : ℕ) × InOrder u (entry_of root) → ahead ≡ root ∷ [] → totals ≡ totals_of_none
    → IsWalked (record { root = root; ahead = ahead; totals = totals }) []
walk_begins root ahead totals is_table in_order ahead_is totals_are = record {
  is_board = record { is_table = is_table; in_order = in_order; held = record { fit = tt; scored = All-nil HasScore } };
  are_open = subst (AreExactly (IsOpen root (mark_in []))) (sym ahead_is) (exactly_one (IsOpen root (mark_in [])) root (root_open root) (open_first root));
  totals_are = subst (AreTotals root []) (sym totals_are) (totals_none root);
}

-- the last of a list
pub last_is : (xs : List Packed) (t : Packed) → slice_get xs (length xs - 1) ≡ Some t → IsLast xs t
last_is xs t at =
    let within = slice_get_within xs (length xs - 1) t at in
    let here : get_or xs (length xs - 1) t ≡ t = get_or_from_slice_get xs (length xs - 1) t t at in
    let more = take_more xs (length xs - 1) t within in
    let all : length xs - 1 + 1 ≡ length xs = omega (arith, within) in
    sym (take-length xs) ∙ (ap (λ (n : ℕ). take n xs) (sym all) ∙ (more ∙ ap (λ (p : Packed). take (length xs - 1) xs ++ (p ∷ [])) here))

pub last_read : (xs ys : List Packed) (t : Packed) → ys ≡ xs → Some t ≡ slice_get ys (length ys - 1) → IsLast xs t
last_read xs ys t same at = last_is xs t (subst (λ (l : List Packed). slice_get l (length l - 1) ≡ Some t) same (sym at))

-- what a decider answers for a table, as a record of that table
pub answer_for : (D : Type 0) (answers : D → Packed → Recorded → Type 0) (d : D) (r : OwnedRecord) (t : Packed) → r.table ≡ t → answers d t (owned_recorded r)
    → answers d t (record { table = t; claim = owned_claim r.certificate })
answer_for D answers d r t same answered = subst (λ (p : Packed). answers d t (record { table = p; claim = owned_claim r.certificate })) same answered

pub judged_for : (r : OwnedRecord) (t : Packed) (judged : Judged) → r.table ≡ t → IsShownBy (owned_recorded r) judged → IsShownBy (record { table = t; claim = owned_claim r.certificate }) judged
judged_for r t judged same shown = subst (λ (p : Packed). IsShownBy (record { table = p; claim = owned_claim r.certificate }) judged) same shown

-- the last of those ahead is open, so it names its states in order and is counted
pub last_in_order : (w : Walked) (t : Packed) → Below → KeepsOrder → IsOfRecords w → IsLast w.ahead t → (u : ℕ) × InOrder u (entry_of t)
last_in_order w t below keeps some last =
    open_in_order (board_of w.root some.0) t below keeps some.1.is_board (top_open w some.0 (take (length w.ahead - 1) w.ahead) t some.1 last)

pub last_counted : (w : Walked) (t : Packed) → IsOfRecords w → IsLast w.ahead t → (1 ≤ w.totals.tally.nodes) × (1 ≤ w.totals.tally.open_count)
last_counted w t some last = some_counted w some.0 (take (length w.ahead - 1) w.ahead) t some.1 last

-- what a walk holds with others ahead
abbrev pub with_ahead : Walked → List Packed → Totals → Walked
with_ahead w ahead totals = record { root = w.root; ahead = ahead; totals = totals }

module _ (D : Type 0) (answers : D → Packed → Recorded → Type 0) where
  -- the record is an answer, with its score
  answers_alone : (d : D) (t : Packed) (c : Claim) → answers d t (record { table = t; claim = c }) → All (IsAnswered D answers) (alone t (scored t c))
  answers_alone d t c answered =
      All-cons (IsAnswered D answers) (record { table = t; claim = scored t c }) [] (d, record { table = t; claim = c }, answered, refl) (All-nil (IsAnswered D answers))

  module _ (w : Walked) (t : Packed) (c : Claim) (judged : Judged) (last : IsLast w.ahead t) (shown_by_it : IsShownBy (record { table = t; claim = c }) judged)
      (d : D) (answered : answers d t (record { table = t; claim = c })) where
    taken_walked : (ahead : List Packed) (totals : Totals) → TakesLast t judged w.ahead ahead w.totals totals → WalksOn D answers w 1 (with_ahead w ahead totals)
    taken_walked ahead totals takes = record {
      root = refl;
      more = λ rs walked.
          let before = take (length w.ahead - 1) w.ahead in
          let claim = scored t c in
          let shown : IsShownBy (record { table = t; claim = claim }) judged = score_shown (record { table = t; claim = c }) judged shown_by_it in
          let board = walked.is_board in
          let inside = open_in_tree w.root rs t tree_table_child board.held (top_open w rs before t walked last) in
          let opened = opened_alone t claim judged.halts_on takes.found (tree_alike w.root t board.is_table inside).is_table shown.2 takes.opened in
          let one = one_walked w rs before takes.found t claim walked last shown.0 (scored_has (record { table = t; claim = c })) opened in
          let sum : totals ≡ totals_with w.totals (totals_of_one t (shown_by claim t) (length takes.found)) =
          takes.sum ∙ ap (λ (v : Option Verdict). totals_with w.totals (totals_of_one t v (length takes.found))) shown.1 in (
            alone t claim,
            refl,
            answers_alone d t c answered,
            subst (λ (l : List Packed). IsWalked (with_ahead w l totals) (rs ++ alone t claim)) (sym takes.ahead_is)
                (subst (λ (x : Totals). IsWalked (with_ahead w (before ++ takes.found) x) (rs ++ alone t claim)) (sym sum) one),
          );
    }

    -- it goes on by that table, or nothing changes
    pub goes_on : (result : Result (Unit {0}) NoMemory) (ahead : List Packed) (totals : Totals) → OnOk result (TakesLast t judged w.ahead ahead w.totals totals)
        → OnOk result (WalksOn D answers w 1 (with_ahead w ahead totals))
    goes_on result ahead totals takes = on_ok result (taken_walked ahead totals) takes

  -- by no table; and by some, and then by more
  pub stays : (w : Walked) → WalksOn D answers w 0 w
  stays w = record { root = refl; more = λ rs walked. ([], refl, All-nil (IsAnswered D answers), subst (IsWalked w) (sym (append-nil rs)) walked) }

  pub goes_further : (a b c : Walked) (n m : ℕ) → WalksOn D answers a n b → WalksOn D answers b m c → WalksOn D answers a (n + m) c
  goes_further a b c n m first then = record {
    root = then.root ∙ first.root;
    more = λ rs walked.
        let one = first.more rs walked in
        let two = then.more (rs ++ one.0) one.3 in
        (one.0 ++ two.0, omega (arith, one.1, two.1, length-append one.0 two.0), All-append (IsAnswered D answers) one.0 two.0 one.2 two.2, subst (IsWalked c) (append_assoc rs one.0 two.0) two.3);
  }

  -- so it tells of some records still
  pub still_of_records : (w : Walked) (result : Result (Unit {0}) NoMemory) (ahead : List Packed) (totals : Totals) → IsOfRecords w → OnOk result (WalksOn D answers w 1 (with_ahead w ahead totals))
      → OnErr result (ahead ≡ w.ahead) → OnErr result (totals ≡ w.totals) → IsOfRecords (with_ahead w ahead totals)
  still_of_records w (Ok done) ahead totals some on same_ahead same_totals = let more = on.more some.0 some.1 in (some.0 ++ more.0, more.3)
  still_of_records w (Err fault) ahead totals some on same_ahead same_totals =
      subst IsOfRecords (sym (ap (λ (l : List Packed). with_ahead w l totals) same_ahead ∙ ap (λ (x : Totals). with_ahead w w.ahead x) same_totals)) some

-- The children of a table are put ahead, the first last.
insert_first : (xs : List Packed) (n : ℕ) (c : Packed) → n ≡ 0 → insert xs n c ≡ c ∷ xs
insert_first xs n c is = ap (λ (k : ℕ). insert xs k c) is

-- one more is put before those that were put
pub put_before : (xs taken : List Packed) (n : ℕ) (c : Packed) → length xs ≡ n → insert (xs ++ reverse taken) n c ≡ xs ++ reverse (taken ++ (c ∷ []))
put_before xs taken n c is =
    insert-append_right xs (reverse taken) n n c is (omega arith)
    ∙ ap (λ (l : List Packed). xs ++ l) (insert_first (reverse taken) (n - n) c (omega arith) ∙ sym (reverse-append taken (c ∷ [])))

-- the tables of a kind in another order
pub exactly_permuted : (K : Packed → Type 0) (xs ys : List Packed) → IsPermutation xs ys → AreExactly K xs → AreExactly K ys
exactly_permuted K xs ys same x = record {
  exact = λ t. (λ at. (x.exact t).0 (Contains-permutation ys xs t (IsPermutation-sym xs ys same) at), λ k. Contains-permutation xs ys t same ((x.exact t).1 k));
  once = permuted_once xs ys same x.once;
}

pub exactly_reverse : (K : Packed → Type 0) (xs : List Packed) → AreExactly K xs → AreExactly K (reverse xs)
exactly_reverse K xs x = exactly_permuted K xs (reverse xs) (IsPermutation-reverse xs) x
