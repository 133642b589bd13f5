-- For the code: the numbers that are kept of trees.
use Rattle.std.specs.Prelude.{◌≡◌, ◌⊎◌, ℕ, ◌+◌, ◌-◌, ◌<◌, ◌≤◌, ◌^◌, List, Option, Some, None, slice_get, length, true}
use Rattle.machine_text.specs.Terms.{Packed, entry_of}
use Rattle.kind_evidence.specs.declared.verdicts.Ending.{Ending}
use Rattle.ledger.specs.inside.Counting.{greater, steps_of, no_place, is_halting}
use Rattle.ledger.specs.inside.Kept.{IsSmall}
use Rattle.ledger.specs.declared.tree_count.TreeCount.{TreeCount}
use Rattle.ledger.specs.declared.tree_count.TreeChange.{TreeChange}
use Rattle.ledger.specs.declared.stored_record.StoredRecord.{StoredRecord}
use Rattle.law_turing.specs.Terms.{score_at}
use Rattle.law_tree.specs.Terms.{IsOpen, IsGreatestRecorded, IsChildTable, InTableTree}
use Rattle.cert.specs.Terms.{Recorded}
use Rattle.ledger.specs.Records.{mark_in, IsHoldout}
use Rattle.ledger.specs.Tally.{AreSoMany}
use Rattle.ledger.specs.inside.Stored.{records_of}

-- For the code: the numbers that are kept of trees, and a change of them that is made from parent to parent.

-- the numbers of an open table's tree: itself alone
abbrev pub first_count : TreeCount
first_count = record { open_count = 1; holdouts = 0; best = None; ones = None }

-- 1 where there is no verdict
abbrev pub one_undecided : Option Ending → ℕ
one_undecided None = 1
one_undecided (Some v) = 0

-- what the first record of an open table changes, and one that resolves a holdout
abbrev pub taking_change : ℕ → Option Ending → Option ℕ → TreeChange
taking_change n shown ones = record {
  opened = n;
  closed = 1;
  undecided = one_undecided shown;
  resolved = 0;
  steps = steps_of shown;
  ones = ones;
}

abbrev pub resolving_change : ℕ → Option Ending → Option ℕ → TreeChange
resolving_change n shown ones = record {
  opened = n;
  closed = 0;
  undecided = 0;
  resolved = 1;
  steps = steps_of shown;
  ones = ones;
}

-- the numbers after a change, which there is room for in four bytes each
abbrev pub changed_count : TreeChange → TreeCount → TreeCount
changed_count c n = record {
  open_count = n.open_count + c.opened - c.closed;
  holdouts = n.holdouts + c.undecided -
      c.resolved;
  best = greater n.best c.steps;
  ones = greater n.ones c.ones;
}

pub record MayChange (n : TreeCount) (c : TreeChange) : Type 0 where
  pub open_room : n.open_count + c.opened < 2 ^ 32
  pub open_less : c.closed ≤ n.open_count
  pub holdouts_room : n.holdouts < 2 ^ 32 → n.holdouts + c.undecided < 2 ^ 32
  pub holdouts_less : c.resolved ≤ n.holdouts
  pub steps_room : IsSmall c.steps
  pub ones_room : IsSmall c.ones

-- the chain of a place: itself, and that of the place of its record's parent
pub data OnChain (es : List (Packed × StoredRecord)) : ℕ → ℕ → Type 0 where
  Here : {place : ℕ} → place + 1 < 2 ^ 32 → OnChain es place place
  Above : {place above : ℕ} {e : Packed × StoredRecord} → place + 1 < 2 ^ 32 → slice_get es place ≡ Some e
      → OnChain es e.1.parent above → OnChain es place above

-- a chain starts at a record, and each parent's stands before that of its child
abbrev pub HasChain : List (Packed × StoredRecord) → ℕ → Type 0
HasChain es place = place + 1 < 2 ^ 32 → place < length es

abbrev pub AreEarlier : List (Packed × StoredRecord) → Type 0
AreEarlier es = (i : ℕ) (e : Packed × StoredRecord) → slice_get es i ≡ Some e → (e.1.parent ≡ no_place)
    ⊎ (e.1.parent < i)

abbrev pub ChainMayChange : List (Packed × StoredRecord) → ℕ → TreeChange → Type 0
ChainMayChange es from c = (i : ℕ) (e : Packed × StoredRecord) → OnChain es from i → slice_get es i ≡ Some e
    → MayChange e.1.tree c

-- there is a chain from the place, and the change may be made on it
pub record CarriesUp (es : List (Packed × StoredRecord)) (from : ℕ) (c : TreeChange) : Type 0 where
  pub there : HasChain es from
  pub earlier : AreEarlier es
  pub room : ChainMayChange es from c

-- an entry that counts a change, where its place is on the chain, or else is as it was
abbrev pub counting : TreeChange → Packed × StoredRecord → Packed × StoredRecord
counting c e = (e.0, record e.1 { tree = changed_count c e.1.tree })

abbrev pub IsChanged : TreeChange → Packed × StoredRecord → Packed × StoredRecord → Type 0 → Type 0
IsChanged c e now IsOn = (IsOn × (now ≡ counting c e)) ⊎ ((IsOn → ⊥) × (now ≡ e))

abbrev pub AreChanged : TreeChange → List (Packed × StoredRecord) → ℕ → List (Packed × StoredRecord) → Type 0
AreChanged c es from new =
    (i : ℕ) (now : Packed × StoredRecord) → slice_get new i ≡ Some now → (e : Packed × StoredRecord)
    × (slice_get es i ≡ Some e) × IsChanged c e now (OnChain es from i)

-- For the code: what the numbers that are kept with a record say of its table's tree.

-- the numbers are those of the tree of a table
pub record IsTreeCount (root : Packed) (rs : List Recorded) (p : Packed) (n : TreeCount) : Type 0 where
  pub open_count : AreSoMany (λ t. InTableTree p t × IsOpen root (mark_in rs) t) n.open_count
  pub holdouts : AreSoMany (λ t. InTableTree p t × IsHoldout rs t) n.holdouts
  pub best : IsGreatestRecorded (λ t k. k) (mark_in rs) p n.best
  pub ones : IsGreatestRecorded (λ t k. score_at (entry_of t) k) (mark_in rs) p n.ones

-- the place of the record of a table's parent, which stands before the table's own place; the root has none
abbrev pub IsParentPlace : Packed → List Recorded → ℕ → Packed → ℕ → Type 0
IsParentPlace root rs i t place =
    ((t ≡ root) × (place ≡ no_place)) ⊎ ((place < i)
    × ((r : Recorded) × (slice_get rs place ≡ Some r) × (is_halting r ≡ true) × IsChildTable r.table t))

-- with each record are kept the place of its parent's, and the numbers of its tree by these records
abbrev pub AreParented : Packed → List (Packed × StoredRecord) → Type 0
AreParented root es = (i : ℕ) (e : Packed × StoredRecord) → slice_get es i ≡ Some e
    → IsParentPlace root (records_of es) i e.0 e.1.parent

abbrev pub AreTreeCounts : Packed → List Recorded → List (Packed × StoredRecord) → Type 0
AreTreeCounts root rs es = (i : ℕ) (e : Packed × StoredRecord) → slice_get es i ≡ Some e
    → IsTreeCount root rs e.0 e.1.tree

pub record IsIndexed (root : Packed) (es : List (Packed × StoredRecord)) : Type 0 where
  pub parents : AreParented root es
  pub counts : AreTreeCounts root (records_of es) es
