-- What is kept with records of their trees, before a change is carried up and after it.
use Rattle.std.proofs.Common.{◌≡◌, ◌≢◌, ℕ, suc, ◌+◌, ◌<◌, ◌^◌, true, false, cond, List, [], ◌∷◌, length, Option, Some, None, IsSome, option_map, get_or, inl, inr, refl, sym, ◌∙◌, ap, subst, arith, zero, ◌++◌, IfSome, ◌⊎◌, ◌↔◌}
use Rattle.std.specs.Prelude.{slice_get}
use Rattle.std.specs.List.{All, Contains}
use Rattle.std.specs.Map.{lookup}
use Rattle.std.proofs.lemmas.Bool.{cases_lt}
use Rattle.std.proofs.lemmas.Option.{same_Some, slice_get-map, slice_get_within, slice_get-get_or, get_or_from_slice_get}
use Rattle.std.specs.BTreeMap.{BTreeMap}
use Rattle.std.proofs.lemmas.List.{length-map}
use Rattle.machine_text.specs.Terms.{Packed}
use Rattle.kind_evidence.specs.declared.verdicts.Ending.{Ending}
use Rattle.kind_evidence.specs.declared.verdicts.Ending.TheVariants.{Halts, Never}
use Rattle.law_tree.specs.Terms.{Halting, IsChildTable, InTableTree, Itself, IsOpen}
use Rattle.law_tree.proofs.TableLaws.{tree_table_child, one_table_parent}
use Rattle.cert.specs.Terms.{Claim, Recorded, ending_by, IsCertified, owned_claim}
use Rattle.ledger.specs.Records.{same_table, claim_in, mark_in, mark_by, IsBoardOf, HasScore, Resolves, resolved}
use Rattle.ledger.specs.inside.Counting.{says_halts, is_halting, IsCounted, IsOpener, IsOpenMapOf}
use Rattle.ledger.specs.inside.Stored.{entry_recorded, records_of, KnowsPair}
use Rattle.ledger.specs.inside.Trees.{changed_count, MayChange, OnChain, HasChain, AreEarlier, ChainMayChange, IsChanged, AreChanged, IsTreeCount, IsParentPlace, AreParented, AreTreeCounts, IsIndexed, first_count}
use Rattle.ledger.specs.declared.stored_record.StoredRecord.{StoredRecord}
use Rattle.ledger.specs.declared.tree_count.TreeCount.{TreeCount}
use Rattle.ledger.specs.declared.tree_count.TreeChange.{TreeChange}
use Rattle.ledger.proofs.Ancestors.{AreOnce, AreBelow, no_way_up, entry_of_record, chain_above, above_chain}
use Rattle.ledger.proofs.HeldLaws.{AreApart, held_apart, member_claim, unmarked}
use Rattle.ledger.proofs.BoardLaws.{marked_in_tree, IsStoredUnindexed, records_more, records_settled, board_more, board_settled, holdout_claim, silent_claim, taken_last, taken_settling}
use Rattle.ledger.proofs.Claims.{an_entry, same_is, stored_claim, claim_lookup, entry_last, no_entry}
use Rattle.ledger.proofs.Numbers.{member_marked}
use Rattle.ledger.proofs.OpenLaws.{IsTaken, recorded_in_tree, open_in_tree, got_more, got_last, got_settled, settled_slot}
use Rattle.ledger.proofs.TreeCounts.{HaveParents, count_kept, first_is}
use Rattle.ledger.specs.declared.header.Format.TheVariants.{Two}
use Rattle.indexmap.specs.IndexMap.{insert_entry}
use Rattle.ledger.specs.declared.counts.Counts.{Counts}

-- What is kept with the records of their trees, once a record is taken and its change is carried up.

-- a record at a place is a member, and stands for its table
member_at : (rs : List Recorded) (i : ℕ) (r : Recorded) → slice_get rs i ≡ Some r → Contains rs r
member_at rs i r at = (i, slice_get_within rs i r at, get_or_from_slice_get rs i r r at)

record_at : (es : List (Packed × StoredRecord)) (i : ℕ) (e : Packed × StoredRecord) → slice_get es i ≡ Some e → slice_get (records_of es) i ≡ Some (entry_recorded e)
record_at es i e at = slice_get-map entry_recorded es i ∙ ap (option_map entry_recorded) at

entry_claim : (es : List (Packed × StoredRecord)) (i : ℕ) (e : Packed × StoredRecord) → AreApart (records_of es) → slice_get es i ≡ Some e → claim_in (records_of es) e.0 ≡ Some (entry_recorded e).claim
entry_claim es i e apart at = member_claim (records_of es) (entry_recorded e) apart (member_at (records_of es) i (entry_recorded e) (record_at es i e at))

pub lookup_at : (es : List (Packed × StoredRecord)) (t : Packed) (k : StoredRecord) → lookup (same_table t) es ≡ Some k → (i : ℕ) × (e : Packed × StoredRecord) × (slice_get es i ≡ Some e) × (e.0 ≡ t) × (e.1 ≡ k)
lookup_at [] t k is = absurd (cc)
lookup_at (x ∷ es) t k is =
    elim (same_table t x.0) as (λ v. same_table t x.0 ≡ v → cond v (Some x.1) (lookup (same_table t) es) ≡ Some k → (i : ℕ) × (e : Packed × StoredRecord) × (slice_get (x ∷ es) i ≡ Some e) × (e.0 ≡ t) × (e.1 ≡ k)) [
      | true ↦ λ same found. (0, x, refl, sym (same_is t x.0 same), same_Some x.1 k found)
      | false ↦ λ other rest. let w = lookup_at es t k rest in (suc w.0, w.1, w.2, w.3, w.4)
    ] refl is

-- each table stands once
pub once_entries : (es : List (Packed × StoredRecord)) → AreApart (records_of es) → AreOnce es
once_entries es apart = λ i j e f at there same. elim (cases_lt i j) [
  | inl less ↦ absurd (differ i j e f less at there same)
  | inr more ↦ elim (cases_lt j i) [ inl less ↦ absurd (differ j i f e less there at (sym same)) | inr least ↦ omega (arith, more, least) ]
]
  where
    differ : (i j : ℕ) (e f : Packed × StoredRecord) → i < j → slice_get es i ≡ Some e → slice_get es j ≡ Some f → e.0 ≡ f.0 → ⊥
    differ i j e f less at there same =
        let first = record_at es i e at in
        let second = record_at es j f there in
        apart i j (entry_recorded e) less (slice_get_within (records_of es) j (entry_recorded f) second)
        (ap (λ (r : Recorded). r.table) (get_or_from_slice_get (records_of es) i (entry_recorded e) (entry_recorded e) first) ∙ same
        ∙ sym (ap (λ (r : Recorded). r.table) (get_or_from_slice_get (records_of es) j (entry_recorded f) (entry_recorded e) second)))

pub below_entries : (root : Packed) (es : List (Packed × StoredRecord)) → IsBoardOf root (records_of es) → AreBelow root es
below_entries root es board = λ i e at.
    recorded_in_tree root (records_of es) e.0 (entry_recorded e).claim tree_table_child board.held (entry_claim es i e (held_apart root (records_of es) board.held) at)

pub earlier_entries : (root : Packed) (es : List (Packed × StoredRecord)) → AreParented root es → AreEarlier es
earlier_entries root es parents = λ i e at. elim (parents i e at) [ inl top ↦ inl top.1 | inr w ↦ inr w.0 ]

-- a record that says that its table halts
halting_mark : (o : Option Ending) → says_halts o ≡ true → (k : ℕ) × (o ≡ Some (Halts k))
halting_mark None is = cc
halting_mark (Some (Halts k)) is = (k, refl)
halting_mark (Some Never) is = cc

-- the parent of what is open or recorded is recorded as halting
pub have_parents : (root : Packed) (es : List (Packed × StoredRecord)) → IsBoardOf root (records_of es) → AreParented root es → HaveParents root (records_of es)
have_parents root es board parents p t there child (inl is_open) = elim is_open.place [
  | inl e ↦ absurd (no_way_up root p board.is_table there (subst (IsChildTable p) e child))
  | inr w ↦
      let above = marked_in_tree (record { root = root; records = records_of es; format = Two }) w.0 (Halting w.1) tree_table_child board w.2 in
      let same : w.0 ≡ p = one_table_parent root w.0 p t board.is_table above there w.3 child in
      (w.1, subst (λ (x : Packed). mark_in (records_of es) x ≡ Some (Halting w.1)) same w.2)
]
have_parents root es board parents p t there child (inr recorded) =
    let c = some_claim (claim_in (records_of es) t) recorded in
    let k = an_entry es t c.0 c.1 in
    let w = lookup_at es t k.0 k.1 in
    elim (parents w.0 w.1 w.2) [
      | inl top ↦ absurd (no_way_up root p board.is_table there (subst (IsChildTable p) (sym w.3 ∙ top.0) child))
      | inr v ↦
          let g = entry_of_record es w.1.1.parent v.1.0 v.1.1 in
          let table : g.0.0 ≡ v.1.0.table = ap (λ (r : Recorded). r.table) g.2 in
          let above = subst (InTableTree root) table (below_entries root es board w.1.1.parent g.0 g.1) in
          let same : v.1.0.table ≡ p = one_table_parent root v.1.0.table p t board.is_table above there (subst (IsChildTable v.1.0.table) w.3 v.1.3) child in
          let shown = halting_mark (ending_by v.1.0.claim) v.1.2 in
          let marked = member_marked (records_of es) v.1.0 (held_apart root (records_of es) board.held) (member_at (records_of es) w.1.1.parent v.1.0 v.1.1) in
          (shown.0, subst (λ (x : Packed). mark_in (records_of es) x ≡ Some (Halting shown.0)) same (marked ∙ ap (λ (o : Option Ending). Some (mark_by o)) shown.1))
    ]
  where
    some_claim : (o : Option Claim) → IsSome o → (c : Claim) × (o ≡ Some c)
    some_claim None some = cc
    some_claim (Some c) some = (c, refl)

same_list : (xs ys : List (Packed × StoredRecord)) → length xs ≡ length ys
    → ((i : ℕ) (now : Packed × StoredRecord) → slice_get xs i ≡ Some now → (e : Packed × StoredRecord) × (slice_get ys i ≡ Some e) × (entry_recorded now ≡ entry_recorded e)) → records_of xs ≡ records_of ys
same_list [] [] long same = refl
same_list [] (y ∷ ys) long same = absurd (omega (arith, long))
same_list (x ∷ xs) [] long same = absurd (omega (arith, long))
same_list (x ∷ xs) (y ∷ ys) long same =
    let w = same 0 x refl in
    let first : entry_recorded x ≡ entry_recorded y = w.2 ∙ ap entry_recorded (sym (same_Some y w.0 w.1)) in
    ap (λ (r : Recorded). r ∷ records_of xs) first ∙ ap (λ (l : List Recorded). entry_recorded y ∷ l) (same_list xs ys (omega (arith, long)) (λ i now at. same (suc i) now at))

-- a record is put, and its change isn't carried up yet: the numbers are those before
pub record IsReady (root : Packed) (old : List Recorded) (es : List (Packed × StoredRecord)) (r : Recorded) (from : ℕ) : Type 0 where
  pub board : IsBoardOf root (records_of es)
  pub had : HaveParents root old
  pub taken : IsTaken old (records_of es) r
  pub parents : AreParented root es
  pub counts : AreTreeCounts root old es
  pub kept : StoredRecord
  pub at : slice_get es from ≡ Some (r.table, kept)
  pub small : from + 1 < 2 ^ 32

module _ (root : Packed) (old : List Recorded) (es : List (Packed × StoredRecord)) (r : Recorded) (from : ℕ) (ready : IsReady root old es r from) where
  pub ready_there : HasChain es from
  ready_there = λ small. slice_get_within es from (r.table, ready.kept) ready.at

  pub ready_earlier : AreEarlier es
  ready_earlier = earlier_entries root es ready.parents

  ready_once : AreOnce es
  ready_once = once_entries es (held_apart root (records_of es) ready.board.held)

  pub ready_table : InTableTree root r.table
  ready_table = below_entries root es ready.board from (r.table, ready.kept) ready.at

  pub ready_room : (c : TreeChange) → ((p : Packed) (n : TreeCount) → InTableTree p r.table → IsTreeCount root old p n → MayChange n c) → ChainMayChange es from c
  ready_room c room = λ i e on at.
      room e.0 e.1.tree (chain_above root es ready.board.is_table ready.parents (below_entries root es ready.board) ready_once from i (r.table, ready.kept) e on ready.at at) (ready.counts i e at)

  module _ (c : TreeChange) (new : List (Packed × StoredRecord)) (carried : AreChanged c es from new) (as_long : length new ≡ length es) where
    -- but for the numbers each entry is as it was
    still_entry : (i : ℕ) (now : Packed × StoredRecord) → slice_get new i ≡ Some now
        → (e : Packed × StoredRecord) × (slice_get es i ≡ Some e) × ((now.0 ≡ e.0) × (now.1.parent ≡ e.1.parent) × (entry_recorded now ≡ entry_recorded e) × (KnowsPair e → KnowsPair now))
    still_entry i now at = let w = carried i now at in (
      w.0,
      w.1,
      elim w.2 [
        | inl on ↦ (ap (λ (x : Packed × StoredRecord). x.0) on.1, ap (λ (x : Packed × StoredRecord). x.1.parent) on.1, ap entry_recorded on.1, λ known. subst KnowsPair (sym on.1) known)
        | inr off ↦ (ap (λ (x : Packed × StoredRecord). x.0) off.1, ap (λ (x : Packed × StoredRecord). x.1.parent) off.1, ap entry_recorded off.1, λ known. subst KnowsPair (sym off.1) known)
      ],
    )

    pub ready_records : records_of new ≡ records_of es
    ready_records = same_list new es as_long (λ i now at. let w = still_entry i now at in (w.0, w.1, w.2.2))

    pub ready_pairs : All KnowsPair es → All KnowsPair new
    ready_pairs all = λ i d below.
        let w = still_entry i (get_or new i d) (slice_get-get_or new i d below) in
        w.2.3 (subst KnowsPair (get_or_from_slice_get es i w.0 d w.1) (all i d (slice_get_within es i w.0 w.1)))

    ready_parents : AreParented root new
    ready_parents = λ i now at.
        let w = still_entry i now at in
        subst (λ (l : List Recorded). IsParentPlace root l i now.0 now.1.parent) (sym ready_records)
        (subst (λ (n : ℕ). IsParentPlace root (records_of es) i now.0 n) (sym w.2.1) (subst (λ (p : Packed). IsParentPlace root (records_of es) i p w.0.1.parent) (sym w.2.0) (ready.parents i w.0 w.1)))

    pub ready_indexed : ((p : Packed) (n : TreeCount) → InTableTree p r.table → IsTreeCount root old p n → IsTreeCount root (records_of es) p (changed_count c n)) → IsIndexed root new
    ready_indexed moves = record { parents = ready_parents; counts = counts }
      where
        below : AreBelow root es
        below = below_entries root es ready.board

        some_there : (o : Option Claim) (d : Claim) → o ≡ Some d → IsSome o
        some_there o d is = subst IsSome (sym is) refl

        recorded_before : (e : Packed × StoredRecord) (i : ℕ) → slice_get es i ≡ Some e → (InTableTree e.0 r.table → ⊥) → IsSome (claim_in old e.0)
        recorded_before e i at outside =
            let other : e.0 ≢ r.table = λ (same : e.0 ≡ r.table). outside (subst (λ (p : Packed). InTableTree p r.table) (sym same) Itself) in
            subst IsSome (ready.taken.others e.0 other) (some_there (claim_in (records_of es) e.0) (entry_recorded e).claim (entry_claim es i e (held_apart root (records_of es) ready.board.held) at))

        count_at : (i : ℕ) (now e : Packed × StoredRecord) → slice_get es i ≡ Some e → IsChanged c e now (OnChain es from i) → IsTreeCount root (records_of es) now.0 now.1.tree
        count_at i now e at (inl on) =
            let inside = chain_above root es ready.board.is_table ready.parents below ready_once from i (r.table, ready.kept) e on.0 ready.at at in
            subst (λ (x : Packed × StoredRecord). IsTreeCount root (records_of es) x.0 x.1.tree) (sym on.1) (moves e.0 e.1.tree inside (ready.counts i e at))
        count_at i now e at (inr off) =
            let outside : InTableTree e.0 r.table → ⊥ = λ inside.
            off.0 (above_chain root es ready.board.is_table ready.parents below ready_once (suc from) from i (r.table, ready.kept) e (omega arith) ready.small ready.at at inside) in
            subst (λ (x : Packed × StoredRecord). IsTreeCount root (records_of es) x.0 x.1.tree) (sym off.1)
            (count_kept root ready.board.is_table old ready.had (records_of es) r ready.taken ready_table e.0 e.1.tree (below i e at) (recorded_before e i at outside) outside (ready.counts i e at))

        counts : AreTreeCounts root (records_of new) new
        counts = λ i now at. let w = carried i now at in subst (λ (l : List Recorded). IsTreeCount root l now.0 now.1.tree) (sym ready_records) (count_at i now w.0 w.1 w.2)

-- A record that is put, before its change is carried up.

-- the places in a list with one more at its end
got_append : (xs : List (Packed × StoredRecord)) (y x : Packed × StoredRecord) (i : ℕ) → slice_get (xs ++ (y ∷ [])) i ≡ Some x → (slice_get xs i ≡ Some x) ⊎ ((i ≡ length xs) × (x ≡ y))
got_append [] y x zero at = inr (refl, sym (same_Some y x at))
got_append [] y x (suc i) at = absurd (cc)
got_append (z ∷ xs) y x zero at = inl at
got_append (z ∷ xs) y x (suc i) at = elim (got_append xs y x i at) [ inl before ↦ inl before | inr last ↦ inr (ap suc last.0, last.1) ]

-- and in one with another value at a key that is there, of the same parent and the same numbers
got_inserted : (es : List (Packed × StoredRecord)) (t : Packed) (k old : StoredRecord) (i : ℕ) (e : Packed × StoredRecord) → lookup (same_table t) es ≡ Some old → k.parent ≡ old.parent → k.tree ≡ old.tree
    → slice_get (insert_entry same_table es t k) i ≡ Some e → (f : Packed × StoredRecord) × (slice_get es i ≡ Some f) × ((e.0 ≡ f.0) × (e.1.parent ≡ f.1.parent) × (e.1.tree ≡ f.1.tree))
got_inserted [] t k old i e is parent tree at = absurd (cc)
got_inserted (x ∷ es) t k old zero e is parent tree at =
    elim (same_table t x.0) as (λ v. same_table t x.0 ≡ v → cond v (Some x.1) (lookup (same_table t) es) ≡ Some old → slice_get (cond v ((x.0, k) ∷ es) (x ∷ insert_entry same_table es t k)) 0 ≡ Some e
    → (f : Packed × StoredRecord) × (slice_get (x ∷ es) 0 ≡ Some f) × ((e.0 ≡ f.0) × (e.1.parent ≡ f.1.parent) × (e.1.tree ≡ f.1.tree))) [
      | true ↦ λ same found here.
          let value : x.1 ≡ old = same_Some x.1 old found in
          let put : (x.0, k) ≡ e = same_Some (x.0, k) e here in (
            x,
            refl,
            (
              ap (λ (y : Packed × StoredRecord). y.0) (sym put),
              ap (λ (y : Packed × StoredRecord). y.1.parent) (sym put) ∙ parent ∙ ap (λ (y : StoredRecord). y.parent) (sym value),
              ap (λ (y : Packed × StoredRecord). y.1.tree) (sym put) ∙ tree ∙ ap (λ (y : StoredRecord). y.tree) (sym value),
            ),
          )
      | false ↦ λ other rest here. let put : x ≡ e = same_Some x e here in
          (x, refl, (ap (λ (y : Packed × StoredRecord). y.0) (sym put), ap (λ (y : Packed × StoredRecord). y.1.parent) (sym put), ap (λ (y : Packed × StoredRecord). y.1.tree) (sym put)))
    ] refl is at
got_inserted (x ∷ es) t k old (suc i) e is parent tree at =
    elim (same_table t x.0) as (λ v. same_table t x.0 ≡ v → cond v (Some x.1) (lookup (same_table t) es) ≡ Some old → slice_get (cond v ((x.0, k) ∷ es) (x ∷ insert_entry same_table es t k)) (suc i) ≡ Some e
    → (f : Packed × StoredRecord) × (slice_get (x ∷ es) (suc i) ≡ Some f) × ((e.0 ≡ f.0) × (e.1.parent ≡ f.1.parent) × (e.1.tree ≡ f.1.tree))) [
      | true ↦ λ same found here. (e, here, (refl, refl, refl))
      | false ↦ λ other rest here. got_inserted es t k old i e rest parent tree here
    ] refl is at

-- a parent that halts keeps its place
place_kept : (root : Packed) (rs new : List Recorded) (i : ℕ) (t : Packed) (place : ℕ) → ((x : Recorded) → slice_get rs place ≡ Some x → is_halting x ≡ true → slice_get new place ≡ Some x)
    → IsParentPlace root rs i t place → IsParentPlace root new i t place
place_kept root rs new i t place still (inl top) = inl top
place_kept root rs new i t place still (inr w) = inr (w.0, (w.1.0, still w.1.0 w.1.1 w.1.2, w.1.2, w.1.3))

-- the entry of the record itself
own_entry : (es : List (Packed × StoredRecord)) (place : ℕ) (r : Recorded) → slice_get (records_of es) place ≡ Some r → (k : StoredRecord) × (slice_get es place ≡ Some (r.table, k))
own_entry es place r at =
    let e = entry_of_record es place r at in
    (e.0.1, e.1 ∙ ap (λ (p : Packed). Some (p, e.0.1)) (ap (λ (x : Recorded). x.table) e.2))

pub ready_taken : (root : Packed) (es new : List (Packed × StoredRecord)) (r : Recorded) (k : StoredRecord) (place : ℕ) → IsBoardOf root (records_of es) → IsIndexed root es
    → IsOpen root (mark_in (records_of es)) r.table → IsCertified r → HasScore r → owned_claim k.certificate ≡ r.claim → IsOpener root (records_of es) r.table k.parent → k.tree ≡ first_count
    → new ≡ insert_entry same_table es r.table k → place ≡ length es → place + 1 < 2 ^ 32 → IsReady root (records_of es) new r place
ready_taken root es new r k place board indexed is_open certified scored claim opener tree is last small =
    let rs = records_of es in
    let none = unmarked (claim_in rs r.table) is_open.unmarked in
    let list : records_of new ≡ rs ++ (r ∷ []) = records_more es new r k claim none is in
    let had = have_parents root es board indexed.parents in
    let many = length-map es entry_recorded in
    let own = own_entry new place r (ap (λ (l : List Recorded). slice_get l place) list ∙ ap (slice_get (rs ++ (r ∷ []))) (last ∙ sym many) ∙ got_last rs r) in
    record {
      board = subst (λ (l : List Recorded). IsBoardOf root l) (sym list) (board_more root rs r board is_open certified scored);
      had = had;
      taken = subst (λ (l : List Recorded). IsTaken rs l r) (sym list) (taken_last rs r root is_open);
      parents = λ i e at. subst (λ (l : List Recorded). IsParentPlace root l i e.0 e.1.parent) (sym list)
          (elim (got_append es (r.table, k) e i (subst (λ (l : List (Packed × StoredRecord)). slice_get l i ≡ Some e) (is ∙ entry_last es r.table k (no_entry es r.table none)) at)) [
            | inl before ↦ place_kept root rs (rs ++ (r ∷ [])) i e.0 e.1.parent (λ x there halts. got_more rs (r ∷ []) e.1.parent x there) (indexed.parents i e before)
            | inr here ↦ subst (λ (x : Packed × StoredRecord). IsParentPlace root (rs ++ (r ∷ [])) i x.0 x.1.parent) (sym here.1) (opened_at i (here.0 ∙ sym many) opener)
          ]);
      counts = λ i e at. elim (got_append es (r.table, k) e i (subst (λ (l : List (Packed × StoredRecord)). slice_get l i ≡ Some e) (is ∙ entry_last es r.table k (no_entry es r.table none)) at)) [
        | inl before ↦ indexed.counts i e before
        | inr here ↦ subst (λ (x : Packed × StoredRecord). IsTreeCount root rs x.0 x.1.tree) (sym here.1)
            (subst (IsTreeCount root rs r.table) (sym tree) (first_is root board.is_table rs had r.table (open_in_tree root rs r.table tree_table_child board.held is_open) is_open))
      ];
      kept = own.0;
      at = own.1;
      small = small;
    }
  where
    opened_at : (i : ℕ) → i ≡ length (records_of es) → IsOpener root (records_of es) r.table k.parent → IsParentPlace root (records_of es ++ (r ∷ [])) i r.table k.parent
    opened_at i end (inl top) = inl top
    opened_at i end (inr w) = inr (let within = slice_get_within (records_of es) k.parent w.0 w.1 in omega (arith, within, end), (w.0, got_more (records_of es) (r ∷ []) k.parent w.0 w.1, w.2, w.3))

pub ready_settled : (root : Packed) (es new : List (Packed × StoredRecord)) (r x : Recorded) (k old : StoredRecord) (place : ℕ) → IsBoardOf root (records_of es) → IsIndexed root es
    → Resolves (records_of es) r → HasScore r → owned_claim k.certificate ≡ r.claim → lookup (same_table r.table) es ≡ Some old → k.parent ≡ old.parent → k.tree ≡ old.tree
    → new ≡ insert_entry same_table es r.table k → slice_get (records_of es) place ≡ Some x → x.table ≡ r.table → place + 1 < 2 ^ 32 → IsReady root (records_of es) new r place
ready_settled root es new r x k old place board indexed resolves scored claim there parent tree is at table small =
    let rs = records_of es in
    let holdout = resolves.is_holdout in
    let c = holdout_claim rs r.table holdout in
    let list : records_of new ≡ resolved rs r = records_settled es new r k claim holdout is in
    let own = own_entry new place r (ap (λ (l : List Recorded). slice_get l place) list ∙ settled_slot rs r x place (held_apart root rs board.held) at table) in
    record {
      board = subst (λ (l : List Recorded). IsBoardOf root l) (sym list) (board_settled root rs r board resolves scored);
      had = have_parents root es board indexed.parents;
      taken = subst (λ (l : List Recorded). IsTaken rs l r) (sym list) (taken_settling rs r holdout);
      parents = λ i e got.
          let w = got_inserted es r.table k old i e there parent tree (subst (λ (l : List (Packed × StoredRecord)). slice_get l i ≡ Some e) is got) in
          subst (λ (l : List Recorded). IsParentPlace root l i e.0 e.1.parent) (sym list)
          (place_kept root rs (resolved rs r) i e.0 e.1.parent (λ y it halts. got_settled rs r c.0 e.1.parent y c.1 (silent_claim (ending_by c.0) c.2) it halts)
          (subst (λ (n : ℕ). IsParentPlace root rs i e.0 n) (sym w.2.1) (subst (λ (p : Packed). IsParentPlace root rs i p w.0.1.parent) (sym w.2.0) (indexed.parents i w.0 w.1))));
      counts = λ i e got.
          let w = got_inserted es r.table k old i e there parent tree (subst (λ (l : List (Packed × StoredRecord)). slice_get l i ≡ Some e) is got) in
          subst (IsTreeCount root rs e.0) (sym w.2.2) (subst (λ (p : Packed). IsTreeCount root rs p w.0.1.tree) (sym w.2.0) (indexed.counts i w.0 w.1));
      kept = own.0;
      at = own.1;
      small = small;
    }

-- what else is kept stays so
pub stored_carried : (root : Packed) (es new : List (Packed × StoredRecord)) (tables : BTreeMap Packed ℕ) (counts : Counts) → IsStoredUnindexed root es tables counts → records_of new ≡ records_of es → All KnowsPair new → IsStoredUnindexed root new tables counts
stored_carried root es new tables counts kept same pairs = (
  subst (λ (l : List Recorded). IsBoardOf root l) (sym same) kept.0,
  subst (λ (l : List Recorded). IsOpenMapOf tables root l) (sym same) kept.1,
  pairs,
  subst (λ (l : List Recorded). IsCounted l counts) (sym same) kept.3,
)

-- the numbers that are kept of a table's tree
pub count_found : (root : Packed) (es : List (Packed × StoredRecord)) (t : Packed) (o : Option TreeCount) → IsIndexed root es → o ≡ option_map (λ (k : StoredRecord). k.tree) (lookup (same_table t) es) → IfSome o (IsTreeCount root (records_of es) t)
count_found root es t o indexed is = subst (λ (x : Option TreeCount). IfSome x (IsTreeCount root (records_of es) t)) (sym is) (by (lookup (same_table t) es) refl)
  where
    by : (x : Option StoredRecord) → lookup (same_table t) es ≡ x → IfSome (option_map (λ (k : StoredRecord). k.tree) x) (IsTreeCount root (records_of es) t)
    by None none = tt
    by (Some k) found =
        let w = lookup_at es t k found in
        subst (λ (v : StoredRecord). IsTreeCount root (records_of es) t v.tree) w.4 (subst (λ (p : Packed). IsTreeCount root (records_of es) p w.1.1.tree) w.3 (indexed.counts w.0 w.1 w.2))

pub count_there : (es : List (Packed × StoredRecord)) (t : Packed) (o : Option TreeCount) → o ≡ option_map (λ (k : StoredRecord). k.tree) (lookup (same_table t) es) → IsSome o ↔ IsSome (claim_in (records_of es) t)
count_there es t o is =
    subst (λ (x : Option Claim). IsSome o ↔ IsSome x) (claim_lookup es t)
    (subst (λ (x : Option TreeCount). IsSome x ↔ IsSome (option_map stored_claim (lookup (same_table t) es))) (sym is) (by (lookup (same_table t) es)))
  where
    by : (x : Option StoredRecord) → IsSome (option_map (λ (k : StoredRecord). k.tree) x) ↔ IsSome (option_map stored_claim x)
    by None = (λ h. cc, λ h. cc)
    by (Some k) = (λ h. refl, λ h. refl)
