-- What two boards of one root come to together.
use Rattle.std.specs.Prelude.{◌≡◌, ◌≢◌, ◌↔◌, ◌⊎◌, List, [], ◌∷◌, ◌++◌, Some, None, Result, Ok, Err}
use Rattle.machine_text.specs.Terms.{Packed}
use Rattle.kind_evidence.specs.declared.verdicts.Ending.{Ending}
use Rattle.cert.specs.Terms.{Recorded}
use Rattle.ledger.specs.Records.{ending_in, IsHoldout, Contents}
use Rattle.ledger.specs.Offers.{OfferGives}
use Rattle.ledger.specs.declared.faults.Taken.{Taken}
use Rattle.ledger.specs.declared.faults.MergeFault.{MergeFault}
use Rattle.ledger.specs.declared.faults.MergeFault.TheVariants.{WrongRoot, NoMemory}

-- each record of a list is offered, one after another, and none is refused: so the records old become the records new
abbrev pub AreTakenIn : Packed → List Recorded → List Recorded → List Recorded → Type 0
AreTakenIn root old [] new = new ≡ old
AreTakenIn root old (r ∷ rs) new = (taken : Taken) × (mid : List Recorded) × OfferGives root old r (Ok taken) mid
    × AreTakenIn root mid rs new

-- the tables with a verdict are those of either list, with the same verdict; the holdouts are those of either list that
-- have a verdict in neither
pub record IsMerged (a b new : List Recorded) : Type 0 where
  pub verdicts : (t : Packed) (v : Ending) → (ending_in new t ≡ Some v)
      ↔ ((ending_in a t ≡ Some v) ⊎ (ending_in b t ≡ Some v))
  pub holdouts : (t : Packed) → IsHoldout new t
      ↔ ((IsHoldout a t ⊎ IsHoldout b t) × (ending_in a t ≡ None) × (ending_in b t ≡ None))

-- what becomes of a board that another is merged into; where memory is refused, a beginning of the other's records was
-- taken in
abbrev pub MergeGives : Contents → Contents → Result (Unit {0}) MergeFault → Contents → Type 0
MergeGives old other (Ok done) new =
    (old.root ≡ other.root) × AreTakenIn old.root old.records other.records new.records
    × IsMerged old.records other.records new.records
MergeGives old other (Err WrongRoot) new = (old.root ≢ other.root) × (new.records ≡ old.records)
MergeGives old other (Err NoMemory) new =
    (old.root ≡ other.root) × (start : List Recorded) × (rest : List Recorded) × (other.records ≡ start ++ rest)
    × AreTakenIn old.root old.records start new.records × IsMerged old.records start new.records
