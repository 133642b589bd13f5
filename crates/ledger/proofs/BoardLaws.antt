-- What is so of every board, and what it keeps once a record is taken.
use Rattle.std.proofs.Common.{◌≡◌, ◌≢◌, ℕ, true, false, List, [], ◌∷◌, ◌++◌, Option, Some, None, option_map, inl, inr, ◌⊎◌, ◌↔◌, refl, sym, ◌∙◌, ap, subst, length, Bool, ◌+◌, ◌≤◌, map, get_or, nat_eq, arith, ◌<◌, ◌^◌}
use Rattle.std.specs.Prelude.{slice_get}
use Rattle.std.specs.List.{All, Contains, AllPairs, filter, filter_map}
use Rattle.std.specs.Map.{lookup, remove_entry}
use Rattle.std.specs.Option.{is_some}
use Rattle.std.specs.BTreeMap.{BTreeMap, ContainsKey, is_at, keys}
use Rattle.std.specs.List.Sorted.{IsPermutation, IsSorted, IsStrictlySortedBy}
use Rattle.std.proofs.lemmas.List.{length-map, map-append}
use Rattle.std.proofs.lemmas.List.Sorted.{Contains-permutation, IsPermutation-sym}
use Rattle.std.proofs.lemmas.List.Elements.{All-contains_itself}
use Rattle.machine_text.specs.Terms.{Packed, IsTable, entry_of, table_cmp}
use Rattle.machine_text.specs.declared.table.Pair.{Pair}
use Rattle.kind_evidence.specs.declared.verdicts.Ending.{Ending}
use Rattle.kind_evidence.specs.declared.verdicts.Ending.TheVariants.{Halts, Never}
use Rattle.law_tree.specs.Terms.{InOrder, IsOpen, Holdout, IsChildTable, InTableTree, Mark, Halting}
use Rattle.cert.specs.Terms.{Claim, Recorded, ending_by, score_by, IsCertified, IsPairOf, owned_claim}
use Rattle.ledger.specs.Records.{claim_in, mark_in, mark_of, mark_by, HasScore, IsHoldout, Resolves, resolved, Contents, IsBoard, IsBoardOf, same_table}
use Rattle.ledger.specs.inside.Counting.{is_halting, says_halts, others, AreChildrenAt, IsOpener, IsNewChild, IsOpenMapOf, IsOpenMap, is_undecided, undecided_table, is_champion, is_ones_champion, is_steps, champion_by, champion_table, ones_champion_table, steps_of, tables_with, tables_with_ones, IsCounted, with_shown, without_holdout, is_never}
use Rattle.ledger.proofs.HeldLaws.{held_apart, unmarked, held_more, held_settled, AreApart, chosen_once}
use Rattle.ledger.proofs.OpenLaws.{pair_halts, IsTaken, taken_new, taken_settled, open_taken, open_in_tree, recorded_in_tree, openers_after, openers_same, all_removed, got_last, grows_last, grows_settled, settled_slot, open_listed, none_opened, next_opens_none, holdout_opens_none}
use Rattle.ledger.specs.Tally.{AreAll, AreSoMany, IsGreatestCount, IsGreatestOnes, IsChampion, IsOnesChampion}
use Rattle.ledger.specs.inside.Stored.{entry_recorded, records_of, KnowsPair}
use Rattle.ledger.specs.declared.stored_record.StoredRecord.{StoredRecord}
use Rattle.ledger.proofs.Numbers.{holdouts_listed, halts_listed, number_within, counted_more, counted_settled, some_holdout}
use Rattle.ledger.proofs.Amounts.{ones_listed, one_greatest_score, ones_taken}
use Rattle.ledger.proofs.Sets.{nobody, in_text_order, keys_rising, rising_once, all_sorted}
use Rattle.ledger.specs.declared.header.Format.{Format}
use Rattle.indexmap.specs.IndexMap.{insert_entry}
use Rattle.ledger.specs.declared.counts.Counts.{Counts}
use Rattle.ledger.proofs.Claims.{no_entry, an_entry, entry_last, entry_settled, inserted_pairs, holdout_shows}

-- A board once a record is taken.

-- the laws of children that the code calls
abbrev pub Below : Type 0
Below = (r p t : Packed) → InTableTree r p → IsChildTable p t → InTableTree r t

abbrev pub KeepsOrder : Type 0
KeepsOrder = (p t : Packed) (u : ℕ) → IsTable p → InOrder u (entry_of p) → InTableTree p t → (v : ℕ) × InOrder v (entry_of t)

pub open_in_order : (b : Contents) (t : Packed) → Below → KeepsOrder → IsBoard b → IsOpen b.root (mark_in b.records) t → (v : ℕ) × InOrder v (entry_of t)
open_in_order b t below keeps board is_open = keeps b.root t board.in_order.0 board.is_table board.in_order.1 (open_in_tree b.root b.records t below board.held is_open)

pub holdout_claim : (rs : List Recorded) (t : Packed) → IsHoldout rs t → (c : Claim) × (claim_in rs t ≡ Some c) × (mark_of c ≡ Holdout)
holdout_claim rs t holdout =
    elim (claim_in rs t) as (λ o. claim_in rs t ≡ o → (c : Claim) × (claim_in rs t ≡ Some c) × (mark_of c ≡ Holdout)) [
      | Some c ↦ λ is. let marked = ap (option_map mark_of) (sym is) ∙ holdout in (c, is, cc)
      | None ↦ λ none. let marked = ap (option_map mark_of) (sym none) ∙ holdout in absurd (cc)
    ] refl

pub holdout_in_order : (b : Contents) (t : Packed) → Below → KeepsOrder → IsBoard b → IsHoldout b.records t → (v : ℕ) × InOrder v (entry_of t)
holdout_in_order b t below keeps board holdout =
    let c = holdout_claim b.records t holdout in
    keeps b.root t board.in_order.0 board.is_table board.in_order.1 (recorded_in_tree b.root b.records t c.0 below board.held c.1)

-- the open tables once a record is taken
abbrev pub Opens : (tables after : BTreeMap Packed ℕ) (rs : List Recorded) (r : Recorded) → Type 0
Opens tables after rs r = (q : Packed) → ContainsKey table_cmp after q ↔ ((ContainsKey table_cmp tables q × (q ≢ r.table)) ⊎ IsNewChild rs r q)

open_taken_exact : (root : Packed) (old new : List Recorded) (r : Recorded) (tables after : BTreeMap Packed ℕ) → IsOpenMapOf tables root old → IsTaken old new r
    → Opens tables after old r → (q : Packed) → ContainsKey table_cmp after q ↔ IsOpen root (mark_in new) q
open_taken_exact root old new r tables after before taken is q = let law = open_taken root old new r q taken in (
  λ h. law.1 (elim ((is q).0 h) [ inl a ↦ inl ((before.exact q).0 a.0, a.1) | inr u ↦ inr u ]),
  λ h. (is q).1 (elim (law.0 h) [ inl a ↦ inl ((before.exact q).1 a.0, a.1) | inr u ↦ inr u ]),
)

pub same_map : (tables after : BTreeMap Packed ℕ) (root : Packed) (rs : List Recorded) → after.entries ≡ tables.entries → IsOpenMapOf tables root rs → IsOpenMapOf after root rs
same_map tables after root rs same before = record {
  exact = λ t. subst (λ (es : List (Packed × ℕ)). (is_some (lookup (is_at (table_cmp t)) es) ≡ true) ↔ IsOpen root (mark_in rs) t) (sym same) (before.exact t);
  openers = subst (All (λ (e : Packed × ℕ). IsOpener root rs e.0 e.1)) (sym same) before.openers;
}

-- the children come into the map, and then the record's table goes out of it
pub opened_then_closed : (rs : List Recorded) (r : Recorded) (A B C : Type 0) (q : Packed) → B ↔ (A ⊎ IsNewChild rs r q) → C ↔ (B × (q ≢ r.table)) → C ↔ ((A × (q ≢ r.table)) ⊎ IsNewChild rs r q)
opened_then_closed rs r A B C q more less = (
  λ c. let h = less.0 c in elim (more.0 h.0) [ inl a ↦ inl (a, h.1) | inr u ↦ inr u ],
  λ h. less.1 (elim h [ inl w ↦ (more.1 (inl w.0), w.1) | inr u ↦ (more.1 (inr u), u.other) ]),
)

-- the pair tells whether there are children at all
opens_or_not : (root : Packed) (rs new : List Recorded) (place : ℕ) (es old : List (Packed × ℕ)) (v : Option Ending) (t : Packed) (pair : Option Pair) → ((q : Packed) (i : ℕ) → IsOpener root rs q i → IsOpener root new q i)
    → All (λ (e : Packed × ℕ). IsOpener root rs e.0 e.1) old → others place es ≡ old → AreChildrenAt place t es → (pair ≡ None → es ≡ old) → IsPairOf v t pair
    → ((k : ℕ) (q : Packed) → v ≡ Some (Halts k) → IsChildTable t q → IsOpener root new q place) → All (λ (e : Packed × ℕ). IsOpener root new e.0 e.1) es
opens_or_not root rs new place es old v t None grows all is children none pair here = subst (All (λ (e : Packed × ℕ). IsOpener root new e.0 e.1)) (sym (none refl)) (openers_same root rs new old grows all)
opens_or_not root rs new place es old v t (Some p) grows all is children none pair here = let w = pair_halts v t p pair in openers_after root rs new t place es old grows all is children (λ q child. here w.0 q w.1 child)

pub halts_says : (r : Recorded) (k : ℕ) → ending_by r.claim ≡ Some (Halts k) → is_halting r ≡ true
halts_says r k is = rw is

-- a fit record is taken
pub board_more : (root : Packed) (old : List Recorded) (r : Recorded) → IsBoardOf root old → IsOpen root (mark_in old) r.table → IsCertified r → HasScore r
    → IsBoardOf root (old ++ (r ∷ []))
board_more root old r board is_open certified scored =
    record { is_table = board.is_table; in_order = board.in_order; held = held_more root old r board.held (record { is_open = is_open; certified = certified }) scored }

pub taken_last : (old : List Recorded) (r : Recorded) (root : Packed) → IsOpen root (mark_in old) r.table → IsTaken old (old ++ (r ∷ [])) r
taken_last old r root is_open = taken_new old r (unmarked (claim_in old r.table) is_open.unmarked)

pub opened_more : (root : Packed) (old : List Recorded) (r : Recorded) (place : ℕ) (pair : Option Pair) (tables mid after : BTreeMap Packed ℕ)
    → IsOpenMapOf tables root old → IsOpen root (mark_in old) r.table → place ≡ length old
    → IsPairOf (ending_by r.claim) r.table pair → others place mid.entries ≡ tables.entries → AreChildrenAt place r.table mid.entries → (pair ≡ None → mid.entries ≡ tables.entries)
    → after.entries ≡ remove_entry (is_at (table_cmp r.table)) mid.entries → Opens tables after old r
    → IsOpenMapOf after root (old ++ (r ∷ []))
opened_more root old r place pair tables mid after before is_open last known others children none removal is = record {
  exact = open_taken_exact root old (old ++ (r ∷ [])) r tables after before (taken_last old r root is_open) is;
  openers = subst (All (λ (e : Packed × ℕ). IsOpener root (old ++ (r ∷ [])) e.0 e.1)) (sym removal)
      (all_removed (λ (e : Packed × ℕ). IsOpener root (old ++ (r ∷ [])) e.0 e.1) (is_at (table_cmp r.table)) mid.entries
      (opens_or_not root old (old ++ (r ∷ [])) place mid.entries tables.entries (ending_by r.claim) r.table pair (grows_last root old r) before.openers others children none known
      (λ k q shown child. inr (r, subst (λ (n : ℕ). slice_get (old ++ (r ∷ [])) n ≡ Some r) (sym last) (got_last old r), halts_says r k shown, child))));
}

-- a holdout is resolved
pub board_settled : (root : Packed) (old : List Recorded) (r : Recorded) → IsBoardOf root old → Resolves old r → HasScore r → IsBoardOf root (resolved old r)
board_settled root old r board resolves scored = record { is_table = board.is_table; in_order = board.in_order; held = held_settled root old r board.held resolves scored }

pub taken_settling : (old : List Recorded) (r : Recorded) → IsHoldout old r.table → IsTaken old (resolved old r) r
taken_settling old r holdout = let c = holdout_claim old r.table holdout in taken_settled old r c.0 c.1 c.2

pub silent_claim : (o : Option Ending) → mark_by o ≡ Holdout → says_halts o ≡ false
silent_claim None e = refl
silent_claim (Some (Halts k)) e = cc
silent_claim (Some Never) e = refl

-- the holdout's own table is not open
still_other : (root : Packed) (old : List Recorded) (r : Recorded) (tables : BTreeMap Packed ℕ) (q : Packed) → IsOpenMapOf tables root old → IsHoldout old r.table → ContainsKey table_cmp tables q → q ≢ r.table
still_other root old r tables q before holdout there = λ (e : q ≡ r.table).
    let gone = ((before.exact q).0 there).unmarked in let here = subst (λ (p : Packed). mark_in old p ≡ Some Holdout) (sym e) holdout in absurd (cc)

pub opened_settled : (root : Packed) (old : List Recorded) (r x : Recorded) (place : ℕ) (pair : Option Pair) (tables after : BTreeMap Packed ℕ)
    → IsBoardOf root old → IsOpenMapOf tables root old → IsHoldout old r.table
    → slice_get old place ≡ Some x → x.table ≡ r.table
    → IsPairOf (ending_by r.claim) r.table pair → others place after.entries ≡ tables.entries → AreChildrenAt place r.table after.entries → (pair ≡ None → after.entries ≡ tables.entries)
    → ((q : Packed) → ContainsKey table_cmp after q ↔ (ContainsKey table_cmp tables q ⊎ IsNewChild old r q))
    → IsOpenMapOf after root (resolved old r)
opened_settled root old r x place pair tables after board before holdout at table known others children none is =
    let c = holdout_claim old r.table holdout in
    let opens : Opens tables after old r = λ q. (
      λ h. elim ((is q).0 h) [ inl a ↦ inl (a, still_other root old r tables q before holdout a) | inr u ↦ inr u ],
      λ h. (is q).1 (elim h [ inl a ↦ inl a.0 | inr u ↦ inr u ]),
    ) in
    record {
      exact = open_taken_exact root old (resolved old r) r tables after before (taken_settling old r holdout) opens;
      openers = opens_or_not root old (resolved old r) place after.entries tables.entries (ending_by r.claim) r.table pair (grows_settled root old r c.0 c.1 (silent_claim (ending_by c.0) c.2)) before.openers others children none known
          (λ k q shown child. inr (r, settled_slot old r x place (held_apart root old board.held) at table, halts_says r k shown, child));
    }

-- What is so of every board: its tables stand in the tree of its root, and which of them are open or holdouts.

-- the laws of trees that the code calls
abbrev pub OfTables : Type 0
OfTables = (p t : Packed) → IsTable p → InTableTree p t → IsTable t × (t.states ≡ p.states)

pub marked_in_tree : (b : Contents) (t : Packed) (m : Mark) → Below → IsBoard b → mark_in b.records t ≡ Some m → InTableTree b.root t
marked_in_tree b t m below board is =
    elim (claim_in b.records t) as (λ o. claim_in b.records t ≡ o → InTableTree b.root t) [
      | Some c ↦ λ claimed. recorded_in_tree b.root b.records t c below board.held claimed
      | None ↦ λ none. let marked = ap (option_map mark_of) (sym none) ∙ is in absurd (cc)
    ] refl

pub marked_in_order : (b : Contents) (t : Packed) (m : Mark) → Below → KeepsOrder → IsBoard b → mark_in b.records t ≡ Some m → (v : ℕ) × InOrder v (entry_of t)
marked_in_order b t m below keeps board is = keeps b.root t board.in_order.0 board.is_table board.in_order.1 (marked_in_tree b t m below board is)

pub marked_table : (b : Contents) (t : Packed) (m : Mark) → Below → OfTables → IsBoard b → mark_in b.records t ≡ Some m → IsTable t
marked_table b t m below tables board is = (tables b.root t board.is_table (marked_in_tree b t m below board is)).0

pub open_table : (b : Contents) (t : Packed) → Below → OfTables → IsBoard b → IsOpen b.root (mark_in b.records) t → IsTable t
open_table b t below tables board is_open = (tables b.root t board.is_table (open_in_tree b.root b.records t below board.held is_open)).0

-- the map of the open tables lists all of them
pub all_open : (b : Contents) (tables : BTreeMap Packed ℕ) → Below → OfTables → IsBoard b → IsOpenMap tables b → IsStrictlySortedBy table_cmp (keys tables)
    → AreAll (IsOpen b.root (mark_in b.records)) (keys tables)
all_open b tables below laws board exact sorted =
    let listed = open_listed b tables exact in record {
      exact = listed;
      rising = in_text_order (keys tables) (λ t at. open_table b t below laws board ((listed t).0 at)) (keys_rising (keys tables) sorted);
    }

pub open_number : (b : Contents) (tables : BTreeMap Packed ℕ) (n : ℕ) → IsOpenMap tables b → n ≡ length tables.entries → IsStrictlySortedBy table_cmp (keys tables) → AreSoMany (IsOpen b.root (mark_in b.records)) n
open_number b tables n exact is sorted = record {
  tables = keys tables;
  exact = open_listed b tables exact;
  once = rising_once (keys tables) (keys_rising (keys tables) sorted);
  is = is ∙ sym (length-map tables.entries (λ (e : Packed × ℕ). e.0));
}

-- of a kind of which there are none, there is none
pub none_of : (IsOfKind : Packed → Type 0) (n : ℕ) → AreSoMany IsOfKind n → n ≤ 0 → (t : Packed) → IsOfKind t → ⊥
none_of IsOfKind n many none t kind = let at = (many.exact t).1 kind in let (k, below, is) = at in omega (arith, many.is)

-- the holdouts, as the code lists them
undecided_listed : (rs : List Recorded) → filter_map undecided_table rs ≡ map (λ (r : Recorded). r.table) (filter is_undecided rs)
undecided_listed [] = refl
undecided_listed (x ∷ xs) =
    elim (is_undecided x) as (λ v. is_undecided x ≡ v → filter_map undecided_table (x ∷ xs) ≡ map (λ (r : Recorded). r.table) (filter is_undecided (x ∷ xs))) [
      | true ↦ λ pass. rw pass (ap (λ (l : List Packed). x.table ∷ l) (undecided_listed xs))
      | false ↦ λ fails. rw fails (undecided_listed xs)
    ] refl

pub all_holdouts : (b : Contents) (xs ys : List Packed) → Below → OfTables → IsBoard b → xs ≡ filter_map undecided_table b.records → IsPermutation xs ys → IsSorted table_cmp ys → AreAll (IsHoldout b.records) ys
all_holdouts b xs ys below laws board is permuted sorted =
    let apart = held_apart b.root b.records board.held in
    let all = holdouts_listed b.records apart in
    let listed : xs ≡ map (λ (r : Recorded). r.table) (filter is_undecided b.records) = is ∙ undecided_listed b.records in
    all_sorted (IsHoldout b.records) xs ys
    (λ t at. (all t).0 (subst (λ (l : List Packed). Contains l t) listed at))
    (λ t kind. subst (λ (l : List Packed). Contains l t) (sym listed) ((all t).1 kind))
    (λ t kind. marked_table b t Holdout below laws board kind)
    (subst (λ (l : List Packed). AllPairs (λ (p q : Packed). p ≢ q) l) (sym listed) (chosen_once is_undecided b.records apart)) permuted sorted

abbrev pub AreCountedBy : (List Recorded → Packed → Type 0) → (Recorded → Bool) → Type 0
AreCountedBy IsOfKind p = (rs : List Recorded) → AreApart rs → AreSoMany (IsOfKind rs) (length (filter p rs))

pub kind_counted : (IsOfKind : List Recorded → Packed → Type 0) (p : Recorded → Bool) → AreCountedBy IsOfKind p → (b : Contents) (n : ℕ) → IsBoard b → n ≡ length (filter p b.records) → AreSoMany (IsOfKind b.records) n
kind_counted IsOfKind p law b n board is = subst (λ (k : ℕ). AreSoMany (IsOfKind b.records) k) (sym is) (law b.records (held_apart b.root b.records board.held))

pub nodes_counted : (b : Contents) (root : Packed) (es : List (Packed × StoredRecord)) (format : Format) (n m k : ℕ) → (record { root = root; records = records_of es; format = format }) ≡ b → m ≡ length es → n ≡ m + k → n ≡ length b.records + k
nodes_counted b root es format n m k view is all =
    let count : length b.records ≡ length es = ap (λ (c : Contents). length c.records) (sym view) ∙ length-map es entry_recorded in
    omega (arith, count, is, all)

-- the champions, as the code lists them
champions_listed : (number : Recorded → Option ℕ) (best : ℕ) (rs : List Recorded) → filter_map (λ (r : Recorded). champion_by best (number r) r.table) rs ≡ map (λ (r : Recorded). r.table) (filter (λ (r : Recorded). is_steps best (number r)) rs)
champions_listed number best [] = refl
champions_listed number best (x ∷ xs) =
    let later = champions_listed number best xs in
    let listed = λ (l : List Recorded). filter_map (λ (r : Recorded). champion_by best (number r) r.table) l in
    let chosen = λ (l : List Recorded). map (λ (r : Recorded). r.table) (filter (λ (r : Recorded). is_steps best (number r)) l) in
    elim (number x) as (λ o. number x ≡ o → listed (x ∷ xs) ≡ chosen (x ∷ xs)) [
      | None ↦ λ is. rw is later
      | Some k ↦ λ is. elim (nat_eq k best) as (λ v. nat_eq k best ≡ v → listed (x ∷ xs) ≡ chosen (x ∷ xs)) [
        | true ↦ λ same. rw (is, same) (ap (λ (l : List Packed). x.table ∷ l) later)
        | false ↦ λ other. rw (is, other) later
      ] refl
    ] refl

pub all_champions : (b : Contents) (best : ℕ) (xs ys : List Packed) → Below → OfTables → IsBoard b → xs ≡ filter_map (champion_table best) b.records → IsPermutation xs ys → IsSorted table_cmp ys
    → AreAll (IsChampion b.records (Some best)) ys
all_champions b best xs ys below laws board is permuted sorted =
    let apart = held_apart b.root b.records board.held in
    let all = halts_listed best b.records apart in
    let listed : xs ≡ map (λ (r : Recorded). r.table) (filter (is_champion best) b.records) = is ∙ champions_listed (λ (r : Recorded). steps_of (ending_by r.claim)) best b.records in
    all_sorted (IsChampion b.records (Some best)) xs ys
    (λ t at. (all t).0 (subst (λ (l : List Packed). Contains l t) listed at))
    (λ t kind. subst (λ (l : List Packed). Contains l t) (sym listed) ((all t).1 kind))
    (λ t kind. marked_table b t (Halting best) below laws board kind)
    (subst (λ (l : List Packed). AllPairs (λ (p q : Packed). p ≢ q) l) (sym listed) (chosen_once (is_champion best) b.records apart)) permuted sorted

pub no_champions : (rs : List Recorded) (xs ys : List Packed) → xs ≡ [] → IsPermutation xs ys → AreAll (IsChampion rs None) ys
no_champions rs xs ys none permuted =
    let empty : (t : Packed) → Contains ys t → ⊥ = λ t at. nobody (subst (λ (l : List Packed). Contains l t) none (Contains-permutation ys xs t (IsPermutation-sym xs ys permuted) at)) in record {
      exact = λ t. (λ at. absurd (empty t at), λ kind. absurd kind);
      rising = λ i j d less below. absurd (empty (get_or ys i d) (All-contains_itself ys i d (omega arith)));
    }

all_ones_champions : (b : Contents) (best : ℕ) (xs ys : List Packed) → Below → OfTables → IsBoard b → xs ≡ filter_map (ones_champion_table best) b.records → IsPermutation xs ys → IsSorted table_cmp ys
    → AreAll (IsOnesChampion b.records (Some best)) ys
all_ones_champions b best xs ys below laws board is permuted sorted =
    let apart = held_apart b.root b.records board.held in
    let all = ones_listed best b.records apart board.held.scored in
    let listed : xs ≡ map (λ (r : Recorded). r.table) (filter (is_ones_champion best) b.records) = is ∙ champions_listed (λ (r : Recorded). score_by r.claim) best b.records in
    all_sorted (IsOnesChampion b.records (Some best)) xs ys
    (λ t at. (all t).0 (subst (λ (l : List Packed). Contains l t) listed at))
    (λ t kind. subst (λ (l : List Packed). Contains l t) (sym listed) ((all t).1 kind))
    (λ t kind. marked_table b t (Halting kind.0) below laws board kind.1)
    (subst (λ (l : List Packed). AllPairs (λ (p q : Packed). p ≢ q) l) (sym listed) (chosen_once (is_ones_champion best) b.records apart)) permuted sorted

no_ones_champions : (rs : List Recorded) (xs ys : List Packed) → xs ≡ [] → IsPermutation xs ys → AreAll (IsOnesChampion rs None) ys
no_ones_champions rs xs ys none permuted = let all = no_champions rs xs ys none permuted in record { exact = all.exact; rising = all.rising }

one_greatest : (rs : List Recorded) (a b : Option ℕ) → IsGreatestCount rs a → IsGreatestCount rs b → a ≡ b
one_greatest rs None None x y = refl
one_greatest rs None (Some s) x y = absurd (x y.0.0 s y.0.1)
one_greatest rs (Some r) None x y = absurd (y x.0.0 r x.0.1)
one_greatest rs (Some r) (Some s) x y =
    let low : r ≤ s = y.1 x.0.0 r x.0.1 in let high : s ≤ r = x.1 y.0.0 s y.0.1 in ap (λ (n : ℕ). Some n) (omega arith)

by_best : (b : Contents) (xs ys : List Packed) (best : Option ℕ) → Below → OfTables → IsBoard b → xs ≡ tables_with best b.records → IsPermutation xs ys → IsSorted table_cmp ys → AreAll (IsChampion b.records best) ys
by_best b xs ys None below laws board is permuted sorted = no_champions b.records xs ys is permuted
by_best b xs ys (Some best) below laws board is permuted sorted = all_champions b best xs ys below laws board is permuted sorted

-- so are those of the greatest
pub best_champions : (b : Contents) (kept : Option ℕ) (xs ys : List Packed) → Below → OfTables → IsBoard b → IsGreatestCount b.records kept → xs ≡ tables_with kept b.records → IsPermutation xs ys → IsSorted table_cmp ys
    → (best : Option ℕ) → IsGreatestCount b.records best → AreAll (IsChampion b.records best) ys
best_champions b kept xs ys below laws board counted is permuted sorted best greatest =
    let same : kept ≡ best = one_greatest b.records kept best counted greatest in
    by_best b xs ys best below laws board (is ∙ ap (λ (o : Option ℕ). tables_with o b.records) same) permuted sorted

by_ones : (b : Contents) (xs ys : List Packed) (ones : Option ℕ) → Below → OfTables → IsBoard b → xs ≡ tables_with_ones ones b.records → IsPermutation xs ys → IsSorted table_cmp ys → AreAll (IsOnesChampion b.records ones) ys
by_ones b xs ys None below laws board is permuted sorted = no_ones_champions b.records xs ys is permuted
by_ones b xs ys (Some best) below laws board is permuted sorted = all_ones_champions b best xs ys below laws board is permuted sorted

pub best_ones_champions : (b : Contents) (kept : Option ℕ) (xs ys : List Packed) → Below → OfTables → IsBoard b → IsGreatestOnes b.records kept → xs ≡ tables_with_ones kept b.records → IsPermutation xs ys → IsSorted table_cmp ys
    → (ones : Option ℕ) → IsGreatestOnes b.records ones → AreAll (IsOnesChampion b.records ones) ys
best_ones_champions b kept xs ys below laws board counted is permuted sorted ones greatest =
    let same : kept ≡ ones = one_greatest_score b.records kept ones counted greatest in
    by_ones b xs ys ones below laws board (is ∙ ap (λ (o : Option ℕ). tables_with_ones o b.records) same) permuted sorted

-- What the code of a board keeps, once a record is taken.

-- a board as the code has it, but for the numbers of its trees
abbrev pub IsStoredUnindexed : Packed → List (Packed × StoredRecord) → BTreeMap Packed ℕ → Counts → Type 0
IsStoredUnindexed root es tables counts =
    IsBoardOf root (records_of es) × IsOpenMapOf tables root (records_of es) × All KnowsPair es × IsCounted (records_of es) counts

-- its numbers have room
pub numbers_fit : (es : List (Packed × StoredRecord)) (counts : Counts) → IsCounted (records_of es) counts → length es < 2 ^ 63 → (counts.halting < 2 ^ 63) × (counts.never < 2 ^ 63) × (counts.undecided < 2 ^ 63)
numbers_fit es counts counted small =
    let len : length (records_of es) ≡ length es = length-map es entry_recorded in (
      omega (arith, counted.halting, number_within is_halting (records_of es), len, small),
      omega (arith, counted.never, number_within is_never (records_of es), len, small),
      omega (arith, counted.undecided, number_within is_undecided (records_of es), len, small),
    )

-- the next place opened nothing yet
pub next_place : (root : Packed) (es : List (Packed × StoredRecord)) (tables : BTreeMap Packed ℕ) (place : ℕ) → IsOpenMapOf tables root (records_of es) → place ≡ length es → place + 1 < 2 ^ 32
    → others place tables.entries ≡ tables.entries
next_place root es tables place before is small =
    none_opened root (records_of es) place tables.entries (λ t. next_opens_none root (records_of es) t place (is ∙ sym (length-map es entry_recorded)) small) before.openers

-- nor did a holdout's place
pub holdouts_place : (root : Packed) (es : List (Packed × StoredRecord)) (tables : BTreeMap Packed ℕ) (place : ℕ) (t : Packed) → IsOpenMapOf tables root (records_of es)
    → (r : Recorded) × (slice_get (records_of es) place ≡ Some r) × (r.table ≡ t) × (is_halting r ≡ false) → place + 1 < 2 ^ 32 → others place tables.entries ≡ tables.entries
holdouts_place root es tables place t before at small = none_opened root (records_of es) place tables.entries (λ q. holdout_opens_none root (records_of es) q place at.0 at.1 at.3 small) before.openers

-- the record as it is stored
stored_is : (r : Recorded) (k : StoredRecord) → owned_claim k.certificate ≡ r.claim → entry_recorded (r.table, k) ≡ r
stored_is r k claim = ap (λ (c : Claim). record { table = r.table; claim = c }) claim

pub records_more : (es new : List (Packed × StoredRecord)) (r : Recorded) (k : StoredRecord) → owned_claim k.certificate ≡ r.claim → claim_in (records_of es) r.table ≡ None → new ≡ insert_entry same_table es r.table k
    → records_of new ≡ records_of es ++ (r ∷ [])
records_more es new r k claim none is =
    ap records_of (is ∙ entry_last es r.table k (no_entry es r.table none)) ∙ (map-append entry_recorded es ((r.table, k) ∷ []) ∙ ap (λ (x : Recorded). records_of es ++ (x ∷ [])) (stored_is r k claim))

pub records_settled : (es new : List (Packed × StoredRecord)) (r : Recorded) (k : StoredRecord) → owned_claim k.certificate ≡ r.claim → IsHoldout (records_of es) r.table → new ≡ insert_entry same_table es r.table k
    → records_of new ≡ resolved (records_of es) r
records_settled es new r k claim holdout is =
    let c = holdout_claim (records_of es) r.table holdout in
    let found = an_entry es r.table c.0 c.1 in
    ap records_of is ∙ (entry_settled es r.table k found.0 found.1 ∙ ap (resolved (records_of es)) (stored_is r k claim))

known : (es new : List (Packed × StoredRecord)) (r : Recorded) (k : StoredRecord) → All KnowsPair es → owned_claim k.certificate ≡ r.claim → IsPairOf (ending_by r.claim) r.table k.halts_on → new ≡ insert_entry same_table es r.table k → All KnowsPair new
known es new r k all claim pair is =
    subst (All KnowsPair) (sym is) (inserted_pairs es r.table k all (subst (λ (c : Claim). IsPairOf (ending_by c) r.table k.halts_on) (sym claim) pair))

-- a record of an open table is taken
pub stored_more : (root : Packed) (es new : List (Packed × StoredRecord)) (r : Recorded) (k : StoredRecord) (place : ℕ) (tables mid after : BTreeMap Packed ℕ) (counts : Counts)
    → IsStoredUnindexed root es tables counts → IsOpen root (mark_in (records_of es)) r.table → IsCertified r → HasScore r
    → owned_claim k.certificate ≡ r.claim → IsPairOf (ending_by r.claim) r.table k.halts_on → new ≡ insert_entry same_table es r.table k → place ≡ length es
    → ((q : Packed) → ContainsKey table_cmp mid q ↔ (ContainsKey table_cmp tables q ⊎ IsNewChild (records_of es) r q))
    → others place mid.entries ≡ tables.entries → AreChildrenAt place r.table mid.entries → (k.halts_on ≡ None → mid.entries ≡ tables.entries)
    → ((q : Packed) → ContainsKey table_cmp after q ↔ (ContainsKey table_cmp mid q × (q ≢ r.table))) → after.entries ≡ remove_entry (is_at (table_cmp r.table)) mid.entries
    → IsStoredUnindexed root new after (with_shown counts (ending_by r.claim) (score_by r.claim))
stored_more root es new r k place tables mid after counts kept is_open certified scored claim pair is last opened others children none closed removal =
    let rs = records_of es in
    let gone = unmarked (claim_in rs r.table) is_open.unmarked in
    let list = records_more es new r k claim gone is in (
      subst (λ (l : List Recorded). IsBoardOf root l) (sym list) (board_more root rs r kept.0 is_open certified scored),
      subst (λ (l : List Recorded). IsOpenMapOf after root l) (sym list)
          (opened_more root rs r place k.halts_on tables mid after kept.1 is_open (last ∙ sym (length-map es entry_recorded)) pair others children none removal
          (λ q. opened_then_closed rs r _ _ _ q (opened q) (closed q))),
      known es new r k kept.2 claim pair is,
      subst (λ (l : List Recorded). IsCounted l (with_shown counts (ending_by r.claim) (score_by r.claim))) (sym list) (counted_more rs r counts kept.3 (taken_last rs r root is_open) (ones_taken rs (rs ++ (r ∷ [])) r counts.ones scored (taken_last rs r root is_open) kept.3.ones)),
    )

-- a holdout is resolved
pub stored_settled : (root : Packed) (es new : List (Packed × StoredRecord)) (r : Recorded) (k : StoredRecord) (place : ℕ) (tables after : BTreeMap Packed ℕ) (counts : Counts)
    → IsStoredUnindexed root es tables counts → Resolves (records_of es) r → HasScore r
    → owned_claim k.certificate ≡ r.claim → IsPairOf (ending_by r.claim) r.table k.halts_on → new ≡ insert_entry same_table es r.table k
    → (x : Recorded) × (slice_get (records_of es) place ≡ Some x) × (x.table ≡ r.table) × (is_halting x ≡ false)
    → ((q : Packed) → ContainsKey table_cmp after q ↔ (ContainsKey table_cmp tables q ⊎ IsNewChild (records_of es) r q))
    → others place after.entries ≡ tables.entries → AreChildrenAt place r.table after.entries → (k.halts_on ≡ None → after.entries ≡ tables.entries)
    → IsStoredUnindexed root new after (with_shown (without_holdout counts) (ending_by r.claim) (score_by r.claim))
stored_settled root es new r k place tables after counts kept resolves scored claim pair is at opened others children none =
    let rs = records_of es in
    let holdout = resolves.is_holdout in
    let list = records_settled es new r k claim holdout is in
    let c = holdout_claim rs r.table holdout in (
      subst (λ (l : List Recorded). IsBoardOf root l) (sym list) (board_settled root rs r kept.0 resolves scored),
      subst (λ (l : List Recorded). IsOpenMapOf after root l) (sym list)
          (opened_settled root rs r at.0 place k.halts_on tables after kept.0 kept.1 holdout at.1 at.2 pair others children none opened),
      known es new r k kept.2 claim pair is,
      subst (λ (l : List Recorded). IsCounted l (with_shown (without_holdout counts) (ending_by r.claim) (score_by r.claim))) (sym list)
          (counted_settled rs r c.0 counts kept.3 c.1 (holdout_shows rs r.table c.0 holdout c.1) (taken_settling rs r holdout)
          (ones_taken rs (resolved rs r) r counts.ones scored (taken_settling rs r holdout) kept.3.ones)),
    )

-- there is a holdout to be counted off
pub holdout_counted : (es : List (Packed × StoredRecord)) (counts : Counts) (r : Recorded) → IsCounted (records_of es) counts → IsHoldout (records_of es) r.table → 0 < counts.undecided
holdout_counted es counts r counted holdout =
    let c = holdout_claim (records_of es) r.table holdout in
    omega (arith, counted.undecided, some_holdout (records_of es) r c.0 c.1 (holdout_shows (records_of es) r.table c.0 holdout c.1))
