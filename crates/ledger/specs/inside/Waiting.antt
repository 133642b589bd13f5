-- For the code: where an offered record stands, and where it is put.
use Rattle.std.specs.Prelude.{◌≡◌, ℕ, List, [], ◌∷◌, ◌++◌, IsSome, ◌↔◌, ◌≢◌, Option, Some, false, length, slice_get, None}
use Rattle.std.specs.BTreeMap.{BTreeMap, ContainsKey, is_at}
use Rattle.std.specs.Map.{lookup, remove_entry}
use Rattle.machine_text.specs.Terms.{table_cmp, Packed}
use Rattle.kind_evidence.specs.declared.verdicts.Ending.{Ending}
use Rattle.law_tree.specs.Terms.{IsOpen}
use Rattle.cert.specs.Terms.{Recorded, ending_by, IsCertified, IsUnfitBy, IsShownBy}
use Rattle.ledger.specs.Records.{mark_in, same_table, IsFit, IsHoldout, Resolves, resolved}
use Rattle.ledger.specs.inside.Trees.{first_count, resolving_change, taking_change}
use Rattle.ledger.specs.inside.Counting.{is_halting, without_holdout, IsOpener}
use Rattle.ledger.specs.inside.Stored.{records_of}
use Rattle.ledger.specs.declared.counts.Counts.{Counts}
use Rattle.ledger.specs.declared.stored_record.StoredRecord.{StoredRecord}
use Rattle.ledger.specs.declared.faults.Taken.{Taken}
use Rattle.ledger.specs.declared.faults.Taken.TheVariants.{New, Settled}
use Rattle.ledger.specs.declared.tree_count.TreeChange.{TreeChange}
use Rattle.ledger.specs.declared.places.Slot.{Slot}
use Rattle.ledger.specs.declared.places.Waiting.{Waiting}
use Rattle.ledger.specs.declared.places.Waiting.TheVariants.{Open, Holdout}
use Rattle.ledger.specs.Offers.{IsKnown, IsElsewhere}
use Rattle.ledger.specs.declared.faults.OfferFault.{OfferFault}
use Rattle.ledger.specs.declared.faults.OfferFault.TheVariants.{WrongSize, NotOpen, Refused as IsRefused, NoMemory}
use Rattle.ledger.specs.declared.stored_record.Judging.{Judging}
use Rattle.ledger.specs.declared.stored_record.Judging.TheVariants.{Due, Done, Seen}
use Rattle.ledger.specs.declared.places.Footing.{Footing}
use Rattle.ledger.specs.declared.places.Footing.TheVariants.{Known, Waiting as IsWaiting, Elsewhere}

-- For the code: tables that wait for a record, where it is put, and what changes with it.

-- the record's table waits for it
abbrev pub WaitsFor : Packed → List Recorded → Recorded → Waiting → Type 0
WaitsFor root rs r (Open opener) = IsOpen root (mark_in rs) r.table × IsOpener root rs r.table opener
WaitsFor root rs r Holdout = IsHoldout rs r.table × IsSome (ending_by r.claim)

abbrev pub taken_of : Waiting → Taken
taken_of (Open opener) = New
taken_of Holdout = Settled

-- the records once it is taken: with one more, or with it in the place of the holdout's
abbrev pub put_by : Waiting → List Recorded → Recorded → List Recorded
put_by (Open opener) rs r = rs ++ (r ∷ [])
put_by Holdout rs r = resolved rs r

abbrev pub TakesAs : Waiting → Packed → List Recorded → Recorded → Taken → Type 0
TakesAs (Open opener) root rs r taken = (taken ≡ New) × IsFit root rs r
TakesAs Holdout root rs r taken = (taken ≡ Settled) × Resolves rs r

-- behind the last record, below what opened the table; or where the holdout's is, with what is kept with that
abbrev pub IsSlot : List (Packed × StoredRecord) → Packed → Waiting → Slot → Type 0
IsSlot es t (Open opener) s = (s.place ≡ length es) × (s.parent ≡ opener) × (s.tree ≡ first_count)
IsSlot es t Holdout s =
    ((r : Recorded) × (slice_get (records_of es) s.place ≡ Some r) × (r.table ≡ t) × (is_halting r ≡ false))
    × ((k : StoredRecord) × (lookup (same_table t) es ≡ Some k) × (s.parent ≡ k.parent) × (s.tree ≡ k.tree))

abbrev pub change_of : Waiting → ℕ → Option Ending → Option ℕ → TreeChange
change_of (Open opener) = taking_change
change_of Holdout = resolving_change

-- the numbers of the records without the one that goes
abbrev pub counts_without : Waiting → Counts → Counts
counts_without (Open opener) c = c
counts_without Holdout c = without_holdout c

-- an open table is open no more
abbrev pub ClosesTable : Waiting → Packed → BTreeMap Packed ℕ → BTreeMap Packed ℕ → Type 0
ClosesTable (Open opener) t old new =
    ((q : Packed) → ContainsKey table_cmp new q ↔ (ContainsKey table_cmp old q × (q ≢ t)))
    × (new.entries ≡ remove_entry (is_at (table_cmp t)) old.entries)
ClosesTable Holdout t old new = new.entries ≡ old.entries

-- For the code: where an offered record stands, and why it isn't taken.
abbrev pub IsFooting : Packed → List Recorded → Recorded → Footing → Type 0
IsFooting root rs r Known = IsKnown rs r
IsFooting root rs r (IsWaiting waiting) = WaitsFor root rs r waiting
IsFooting root rs r Elsewhere = IsElsewhere root rs r.table

-- by the verdict that is held and the one that is offered
abbrev pub footing_by : Option Ending → Option Ending → Footing
footing_by (Some v) offered = Known
footing_by None (Some v) = IsWaiting Holdout
footing_by None None = Known

-- why a record that is judged isn't taken: its claim is refused, or memory
abbrev pub IsWhyRefused : OfferFault → Recorded → Type 0
IsWhyRefused WrongSize r = ⊥
IsWhyRefused NotOpen r = ⊥
IsWhyRefused (IsRefused f) r = IsUnfitBy f r
IsWhyRefused NoMemory r = Unit {0}

-- what is known of a record that is yet to be judged, is certified, or was judged with this outcome
abbrev pub IsJudgedSo : Judging → Recorded → Type 0
IsJudgedSo Due r = Unit {0}
IsJudgedSo Done r = IsCertified r
IsJudgedSo (Seen judged) r = IsShownBy r judged

-- a record is yet to be judged
abbrev pub IsUnjudged : Judging → Type 0
IsUnjudged Due = Unit {0}
IsUnjudged Done = ⊥
IsUnjudged (Seen judged) = ⊥
