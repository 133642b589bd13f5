-- What becomes of an offered record, and what it changes in the trees above its slot.
use Rattle.std.proofs.Common.{◌≡◌, ◌⊎◌, IsSome, Option, sym, ◌∙◌, ap, subst, ℕ, ◌<◌, ◌^◌, List, length, filter, Some, arith, ◌↔◌, ◌+◌, None}
use Rattle.std.specs.BTreeMap.{BTreeMap, keys, ContainsKey}
use Rattle.std.specs.List.{All}
use Rattle.std.specs.List.Sorted.{IsStrictlySortedBy}
use Rattle.std.specs.Prelude.{slice_get}
use Rattle.std.proofs.lemmas.List.{length-map}
use Rattle.machine_text.specs.Terms.{Packed, table_cmp, entry_of}
use Rattle.kind_evidence.specs.declared.verdicts.Ending.{Ending}
use Rattle.cert.specs.Terms.{Claim, Recorded, ending_by, score_by, IsCertified, IsPairOf, scored, with_score, claim_of, owned_claim}
use Rattle.cert.specs.declared.certificate.Certificate.{Certificate}
use Rattle.cert.proofs.Claims.{score_certified, scored_ends}
use Rattle.ledger.specs.Records.{HasScore, IsBoardOf, Contents, IsBoard, IsHoldout, Resolves, mark_in, same_table}
use Rattle.ledger.specs.declared.stored_record.StoredRecord.{StoredRecord}
use Rattle.ledger.proofs.HeldLaws.{scored_has, held_apart, unmarked}
use Rattle.indexmap.specs.IndexMap.{insert_entry}
use Rattle.kind_evidence.specs.declared.verdicts.Ending.TheVariants.{Halts}
use Rattle.law_tree.specs.Terms.{IsOpen, IsChildTable, InTableTree, InOrder}
use Rattle.ledger.specs.declared.counts.Counts.{Counts}
use Rattle.ledger.specs.declared.header.Format.{Format}
use Rattle.ledger.specs.declared.header.Format.TheVariants.{Two}
use Rattle.ledger.specs.declared.faults.Taken.{Taken}
use Rattle.ledger.specs.declared.tree_count.TreeCount.{TreeCount}
use Rattle.ledger.specs.declared.places.Slot.{Slot}
use Rattle.ledger.specs.declared.places.Waiting.{Waiting}
use Rattle.ledger.specs.declared.places.Waiting.TheVariants.{Open, Holdout}
use Rattle.ledger.specs.Tally.{AreSoMany}
use Rattle.ledger.specs.inside.Trees.{AreChanged, CarriesUp, MayChange, changed_count, IsIndexed, IsTreeCount}
use Rattle.ledger.specs.inside.Counting.{is_undecided, IsCounted, HaveRoom, with_shown, IsNewChild, IsOpenMapOf, others, AreChildrenAt, IsOpener}
use Rattle.ledger.specs.inside.Stored.{entry_recorded, records_of, KnowsPair}
use Rattle.ledger.specs.inside.Waiting.{WaitsFor, TakesAs, IsSlot, ClosesTable, change_of, counts_without, put_by, taken_of}
use Rattle.ledger.proofs.Amounts.{many_same}
use Rattle.ledger.proofs.BoardLaws.{open_number, IsStoredUnindexed, holdout_counted, holdouts_place, next_place, numbers_fit, records_more, records_settled, stored_more, stored_settled, holdout_in_order, open_in_order, same_map, Below, KeepsOrder}
use Rattle.ledger.proofs.TreeIndex.{IsReady, ready_indexed, ready_pairs, ready_records, ready_room, ready_table, ready_earlier, ready_there, stored_carried, ready_settled, ready_taken}
use Rattle.ledger.proofs.Numbers.{holdout_number, number_within}
use Rattle.ledger.proofs.TreeCounts.{new_child_is, count_settled, count_taken, settled_room, taken_room}

-- The record that is held, as it is lent: the offered one with its score.
abbrev pub as_lent : Packed → Certificate → Recorded
as_lent t c = record { table = t; claim = claim_of c }

pub lent_is : (r : Recorded) (k : StoredRecord) (lent : Certificate) → claim_of lent ≡ owned_claim k.certificate → owned_claim k.certificate ≡ scored r.table r.claim → as_lent r.table lent ≡ with_score r
lent_is r k lent same claim = ap (λ (c : Claim). record { table = r.table; claim = c }) (same ∙ claim)

pub lent_certified : (r : Recorded) (k : StoredRecord) (lent : Certificate) → claim_of lent ≡ owned_claim k.certificate → owned_claim k.certificate ≡ scored r.table r.claim → IsCertified r
    → IsCertified (as_lent r.table lent) × HasScore (as_lent r.table lent)
lent_certified r k lent same claim certified =
    subst (λ (x : Recorded). IsCertified x × HasScore x) (sym (lent_is r k lent same claim)) (score_certified r certified, scored_has r)

pub lent_verdict : (r : Recorded) (k : StoredRecord) (lent : Certificate) → claim_of lent ≡ owned_claim k.certificate → owned_claim k.certificate ≡ scored r.table r.claim → IsSome (ending_by r.claim)
    → IsSome (ending_by (claim_of lent))
lent_verdict r k lent same claim shown = subst (λ (o : Option Ending). IsSome o) (sym (ap ending_by (same ∙ claim) ∙ scored_ends r.table r.claim)) shown

pub lent_pair : (t : Packed) (k : StoredRecord) (lent : Certificate) → claim_of lent ≡ owned_claim k.certificate → IsPairOf (ending_by (owned_claim k.certificate)) t k.halts_on → IsPairOf (ending_by (claim_of lent)) t k.halts_on
lent_pair t k lent same pair = subst (λ (c : Claim). IsPairOf (ending_by c) t k.halts_on) (sym same) pair

-- A record that is put into its slot, by whether its table was open or a holdout, and what it changes in the trees above.

-- what each board of the code keeps, with what is kept of trees
abbrev pub IsStored : Packed → List (Packed × StoredRecord) → BTreeMap Packed ℕ → Counts → Type 0
IsStored root es tables counts =
    IsBoardOf root (records_of es) × IsOpenMapOf tables root (records_of es) × All KnowsPair es × IsCounted (records_of es) counts × IsIndexed root es

-- the tables that the code counted as children
abbrev pub AreCounted : Recorded → ℕ → Type 0
AreCounted r n = AreSoMany (λ t. ((k : ℕ) × (ending_by r.claim ≡ Some (Halts k))) × IsChildTable r.table t) n

-- the record is put among these, in its slot
pub record IsPut (root : Packed) (es new : List (Packed × StoredRecord)) (r : Recorded) (k : StoredRecord) (waiting : Waiting) (place : ℕ) : Type 0 where
  pub waits : WaitsFor root (records_of es) r waiting
  pub certified : IsCertified r
  pub scored : HasScore r
  pub claim : owned_claim k.certificate ≡ r.claim
  pub slot : IsSlot es r.table waiting (record { place = place; parent = k.parent; tree = k.tree })
  pub small : place + 1 < 2 ^ 32
  pub is : new ≡ insert_entry same_table es r.table k

slot_same : (es : List (Packed × StoredRecord)) (t : Packed) (waiting : Waiting) (s u : Slot) → u.place ≡ s.place → u.parent ≡ s.parent → u.tree ≡ s.tree → IsSlot es t waiting s → IsSlot es t waiting u
slot_same es t (Open opener) s u place parent tree is = (place ∙ is.0, parent ∙ is.1, tree ∙ is.2)
slot_same es t Holdout s u place parent tree is =
    let h = is.0 in
    let k = is.1 in
    ((h.0, subst (λ (i : ℕ). slice_get (records_of es) i ≡ Some h.0) (sym place) h.1, h.2, h.3), (k.0, k.1, parent ∙ k.2, tree ∙ k.3))

waits_lent : (root : Packed) (rs : List Recorded) (r : Recorded) (k : StoredRecord) (lent : Certificate) (waiting : Waiting) → claim_of lent ≡ owned_claim k.certificate
    → owned_claim k.certificate ≡ scored r.table r.claim → WaitsFor root rs r waiting → WaitsFor root rs (as_lent r.table lent) waiting
waits_lent root rs r k lent (Open opener) same claim waits = waits
waits_lent root rs r k lent Holdout same claim waits = (waits.0, lent_verdict r k lent same claim waits.1)

-- by what each step of the code gave
pub put_of : (root : Packed) (old es new : List (Packed × StoredRecord)) (format : Format) (now : Contents) (r : Recorded) (k : StoredRecord) (lent : Certificate) (waiting : Waiting) (s : Slot) (place : ℕ)
    → record { root = root; records = records_of old; format = format } ≡ now → es ≡ old → WaitsFor now.root now.records r waiting
    → IsCertified r → owned_claim k.certificate ≡ scored r.table r.claim → claim_of lent ≡ owned_claim k.certificate
    → IsSlot old r.table waiting s → k.parent ≡ s.parent → k.tree ≡ s.tree → place ≡ s.place → place + 1 < 2 ^ 32
    → new ≡ insert_entry same_table es r.table k → IsPut root es new (as_lent r.table lent) k waiting place
put_of root old es new format now r k lent waiting s place view same waits certified claim lends slot parent tree at small is =
    let all = lent_certified r k lent lends claim certified in
    let waits_now = subst (λ (l : List (Packed × StoredRecord)). WaitsFor root (records_of l) r waiting) (sym same) (subst (λ (b : Contents). WaitsFor b.root b.records r waiting) (sym view) waits) in
    record {
      waits = waits_lent root (records_of es) r k lent waiting lends claim waits_now;
      certified = all.0;
      scored = all.1;
      claim = sym lends;
      slot = subst (λ (l : List (Packed × StoredRecord)). IsSlot l r.table waiting (record { place = place; parent = k.parent; tree = k.tree })) (sym same)
          (slot_same old r.table waiting s (record { place = place; parent = k.parent; tree = k.tree }) at parent tree slot);
      small = small;
      is = is;
    }

pub waits_in_order : (b : Contents) (r : Recorded) (waiting : Waiting) → Below → KeepsOrder → IsBoard b → WaitsFor b.root b.records r waiting → (v : ℕ) × InOrder v (entry_of r.table)
waits_in_order b r (Open opener) below keeps board waits = open_in_order b r.table below keeps board waits.0
waits_in_order b r Holdout below keeps board waits = holdout_in_order b r.table below keeps board waits.0

-- nothing was opened by a record at the slot's place
pub slot_opens_none : (root : Packed) (es : List (Packed × StoredRecord)) (tables : BTreeMap Packed ℕ) (t : Packed) (waiting : Waiting) (s : Slot) (place : ℕ) → IsOpenMapOf tables root (records_of es) → IsSlot es t waiting s
    → place ≡ s.place → place + 1 < 2 ^ 32 → others place tables.entries ≡ tables.entries
slot_opens_none root es tables t (Open opener) s place map slot at small = next_place root es tables place map (at ∙ slot.0) small
slot_opens_none root es tables t Holdout s place map slot at small =
    let h = slot.0 in
    holdouts_place root es tables place t map (h.0, subst (λ (i : ℕ). slice_get (records_of es) i ≡ Some h.0) (sym at) h.1, h.2, h.3) small

pub holdout_there : (es : List (Packed × StoredRecord)) (counts : Counts) (r : Recorded) (waiting : Waiting) (root : Packed) → IsCounted (records_of es) counts → WaitsFor root (records_of es) r waiting → waiting ≡ Holdout → 0 < counts.undecided
holdout_there es counts r (Open opener) root counted waits is = absurd (cc)
holdout_there es counts r Holdout root counted waits is = holdout_counted es counts r counted waits.0

pub counts_fit : (es : List (Packed × StoredRecord)) (counts : Counts) (waiting : Waiting) → IsCounted (records_of es) counts → length es < 2 ^ 63
    → HaveRoom (counts_without waiting counts)
counts_fit es counts (Open opener) counted few = numbers_fit es counts counted few
counts_fit es counts Holdout counted few =
    let fit = numbers_fit es counts counted few in
    let small = fit.2 in
    (fit.0, fit.1, omega (arith, small))

pub put_ready : (root : Packed) (es new : List (Packed × StoredRecord)) (r : Recorded) (k : StoredRecord) (waiting : Waiting) (place : ℕ) → IsBoardOf root (records_of es) → IsIndexed root es
    → IsPut root es new r k waiting place → IsReady root (records_of es) new r place
put_ready root es new r k (Open opener) place board indexed put =
    ready_taken root es new r k place board indexed put.waits.0 put.certified put.scored put.claim (subst (IsOpener root (records_of es) r.table) (sym put.slot.1) put.waits.1)
    put.slot.2 put.is put.slot.0 put.small
put_ready root es new r k Holdout place board indexed put =
    let x = put.slot.0 in
    let old = put.slot.1 in
    let resolves : Resolves (records_of es) r = record { is_holdout = put.waits.0; verdict = put.waits.1; certified = put.certified } in
    ready_settled root es new r x.0 k old.0 place board indexed resolves put.scored put.claim old.1 old.2 old.3 put.is x.1 x.2 put.small

pub takes : (root : Packed) (rs : List Recorded) (r : Recorded) (waiting : Waiting) (taken : Taken) → taken ≡ taken_of waiting → WaitsFor root rs r waiting → IsCertified r → TakesAs waiting root rs r taken
takes root rs r (Open opener) taken is waits certified = (is, record { is_open = waits.0; certified = certified })
takes root rs r Holdout taken is waits certified = (is, record { is_holdout = waits.0; verdict = waits.1; certified = certified })

pub put_records : (root : Packed) (es new : List (Packed × StoredRecord)) (r : Recorded) (k : StoredRecord) (waiting : Waiting) (place : ℕ) → IsPut root es new r k waiting place
    → records_of new ≡ put_by waiting (records_of es) r
put_records root es new r k (Open opener) place put = let is_open = put.waits.0 in records_more es new r k put.claim (unmarked _ is_open.unmarked) put.is
put_records root es new r k Holdout place put = records_settled es new r k put.claim put.waits.0 put.is

module _ (root : Packed) (es new : List (Packed × StoredRecord)) (r : Recorded) (k : StoredRecord) (waiting : Waiting) (place opened : ℕ) (number : AreCounted r opened) (tables : BTreeMap Packed ℕ) (counts : Counts)
    (stored : IsStored root es tables counts) (put : IsPut root es new r k waiting place) where
  board : IsBoardOf root (records_of es)
  board = stored.0

  ready : IsReady root (records_of es) new r place
  ready = put_ready root es new r k waiting place board stored.4 put

  in_tree : InTableTree root r.table
  in_tree = ready_table root (records_of es) new r place ready

  new_ones : AreSoMany (IsNewChild (records_of es) r) opened
  new_ones = many_same (λ t. ((k : ℕ) × (ending_by r.claim ≡ Some (Halts k))) × IsChildTable r.table t) (IsNewChild (records_of es) r) opened
      (λ q. new_child_is root board.is_table (records_of es) ready.had (records_of new) r ready.taken in_tree q) number

  -- its change may be made
  module _ (opens : ℕ) (is : opens ≡ length tables.entries) (sorted : IsStrictlySortedBy table_cmp (keys tables)) (few : opens + opened < 2 ^ 32) where
    open_ones : AreSoMany (IsOpen root (mark_in (records_of es))) opens
    open_ones = open_number (record { root = root; records = records_of es; format = Two }) tables opens stored.1 is sorted

    held_ones : AreSoMany (IsHoldout (records_of es)) (length (filter is_undecided (records_of es)))
    held_ones = holdout_number (records_of es) (held_apart root (records_of es) board.held)

    under : place ≡ length es → length (filter is_undecided (records_of es)) + 1 < 2 ^ 32
    under last = let small = put.small in omega (arith, number_within is_undecided (records_of es), length-map es entry_recorded, last, small)

    room : (w : Waiting) → WaitsFor root (records_of es) r w → IsSlot es r.table w (record { place = place; parent = k.parent; tree = k.tree })
        → (p : Packed) (n : TreeCount) → InTableTree p r.table → IsTreeCount root (records_of es) p n
        → MayChange n (change_of w opened (ending_by r.claim) (score_by r.claim))
    room (Open opener) waits slot p n inside count = taken_room root board.is_table (records_of es) ready.had (records_of new) r ready.taken in_tree p inside
        n opened opens (length (filter is_undecided (records_of es))) put.certified waits.0 new_ones open_ones few held_ones (under slot.0) count
    room Holdout waits slot p n inside count = settled_room root board.is_table (records_of es) ready.had (records_of new) r ready.taken in_tree p inside
        n opened opens put.certified waits.0 waits.1 open_ones few count

    pub put_carries : CarriesUp new place (change_of waiting opened (ending_by r.claim) (score_by r.claim))
    put_carries = record {
      there = ready_there root (records_of es) new r place ready;
      earlier = ready_earlier root (records_of es) new r place ready;
      room = ready_room root (records_of es) new r place ready (change_of waiting opened (ending_by r.claim) (score_by r.claim)) (room waiting put.waits put.slot);
    }

  counted : (w : Waiting) → WaitsFor root (records_of es) r w → (p : Packed) (n : TreeCount) → InTableTree p r.table → IsTreeCount root (records_of es) p n
      → IsTreeCount root (records_of new) p (changed_count (change_of w opened (ending_by r.claim) (score_by r.claim)) n)
  counted (Open opener) waits p n inside count =
      count_taken root board.is_table (records_of es) ready.had (records_of new) r ready.taken in_tree p inside n opened waits.0 new_ones put.scored count
  counted Holdout waits p n inside count =
      count_settled root board.is_table (records_of es) ready.had (records_of new) r ready.taken in_tree p inside n opened waits.0 waits.1 new_ones put.scored count

  -- then all that is kept is so of the new records
  module _ (mid after : BTreeMap Packed ℕ) (pair : IsPairOf (ending_by r.claim) r.table k.halts_on)
      (opening : (q : Packed) → ContainsKey table_cmp mid q ↔ (ContainsKey table_cmp tables q ⊎ IsNewChild (records_of es) r q))
      (others_stay : others place mid.entries ≡ tables.entries) (children : AreChildrenAt place r.table mid.entries) (none : k.halts_on ≡ None → mid.entries ≡ tables.entries) where
    before : (w : Waiting) → WaitsFor root (records_of es) r w → IsSlot es r.table w (record { place = place; parent = k.parent; tree = k.tree }) → ClosesTable w r.table mid after
        → IsStoredUnindexed root new after (with_shown (counts_without w counts) (ending_by r.claim) (score_by r.claim))
    before (Open opener) waits slot closed =
        stored_more root es new r k place tables mid after counts (stored.0, stored.1, stored.2, stored.3) waits.0 put.certified put.scored put.claim pair put.is slot.0
        opening others_stay children none closed.0 closed.1
    before Holdout waits slot closed =
        let resolves : Resolves (records_of es) r = record { is_holdout = waits.0; verdict = waits.1; certified = put.certified } in
        let kept = stored_settled root es new r k place tables mid counts (stored.0, stored.1, stored.2, stored.3) resolves put.scored put.claim pair put.is slot.0 opening others_stay children none in
        (kept.0, same_map mid after root (records_of new) closed kept.1, kept.2, kept.3)

    pub put_stored : (last : List (Packed × StoredRecord)) → ClosesTable waiting r.table mid after → AreChanged (change_of waiting opened (ending_by r.claim) (score_by r.claim)) new place last → length last ≡ length new
        → IsStored root last after (with_shown (counts_without waiting counts) (ending_by r.claim) (score_by r.claim))
    put_stored last closed carried long =
        let c = change_of waiting opened (ending_by r.claim) (score_by r.claim) in
        let kept = before waiting put.waits put.slot closed in
        let all = stored_carried root new last after (with_shown (counts_without waiting counts) (ending_by r.claim) (score_by r.claim)) kept
        (ready_records root (records_of es) new r place ready c last carried long) (ready_pairs root (records_of es) new r place ready c last carried long kept.2) in
        (all.0, all.1, all.2, all.3, ready_indexed root (records_of es) new r place ready c last carried long (counted waiting put.waits))
