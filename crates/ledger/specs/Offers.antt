-- What an offered record does, and what a board says of the best of a table.
use Rattle.std.specs.Prelude.{◌≡◌, ◌≢◌, ◌⊎◌, List, [], ◌∷◌, ◌++◌, None, Result, Ok, Err, IsSome}
use Rattle.machine_text.specs.Terms.{Packed, entry_of}
use Rattle.law_tree.specs.Terms.{IsComplete, IsVerdict, IsOpen, IsClosed, IsGreatestRecorded}
use Rattle.cert.specs.Terms.{Recorded, ending_by, IsUnfitBy, with_score}
use Rattle.ledger.specs.Records.{Contents, claim_in, mark_in, IsFit, IsHoldout, Resolves, resolved}
use Rattle.ledger.specs.declared.faults.Taken.{Taken}
use Rattle.ledger.specs.declared.faults.Taken.TheVariants.{New, Known, Settled}
use Rattle.ledger.specs.declared.faults.OfferFault.{OfferFault}
use Rattle.ledger.specs.declared.faults.OfferFault.TheVariants.{WrongSize, NotOpen, Refused as IsRefused, NoMemory}
use Rattle.law_turing.specs.Terms.{score_at}
use Rattle.ledger.specs.declared.counts.Bound.{Bound}
use Rattle.ledger.specs.declared.counts.Bound.TheVariants.{Unknown, Open, Closed}

-- What an offered record does to the records held, and why it is refused.

-- nothing new: the table has a verdict, or it is a holdout and no verdict is offered
pub record IsKnown (rs : List Recorded) (r : Recorded) : Type 0 where
  pub is : IsVerdict (mark_in rs r.table) ⊎ (IsHoldout rs r.table × (ending_by r.claim ≡ None))

-- the record is judged: its table is open, or a holdout for which a verdict is offered
pub record IsJudged (root : Packed) (rs : List Recorded) (r : Recorded) : Type 0 where
  pub is : IsOpen root (mark_in rs) r.table ⊎ (IsHoldout rs r.table × IsSome (ending_by r.claim))

-- the table is neither open nor recorded
pub record IsElsewhere (root : Packed) (rs : List Recorded) (t : Packed) : Type 0 where
  pub unrecorded : claim_in rs t ≡ None
  pub not_open : IsOpen root (mark_in rs) t → ⊥

-- what stays: the root, the version, and the records of a board that was complete
pub record KeepsTree (old new : Contents) : Type 0 where
  pub root : new.root ≡ old.root
  pub format : new.format ≡ old.format
  pub complete : IsComplete old.root (mark_in old.records) → new.records ≡ old.records

-- of the reasons why a record isn't taken, that its claim is refused is one only where this is so
abbrev pub IsRefusedOnly : Type 0 → OfferFault → Type 0
IsRefusedOnly so WrongSize = Unit {0}
IsRefusedOnly so NotOpen = Unit {0}
IsRefusedOnly so (IsRefused f) = so
IsRefusedOnly so NoMemory = Unit {0}

-- what an offered record does; it is held with its score, whether it came with it or not
abbrev pub OfferGives : Packed → List Recorded → Recorded → Result Taken OfferFault → List Recorded → Type 0
OfferGives root old r (Ok New) new = IsFit root old r × (new ≡ old ++ (with_score r ∷ []))
OfferGives root old r (Ok Known) new = IsKnown old r × (new ≡ old)
OfferGives root old r (Ok Settled) new = Resolves old r × (new ≡ resolved old (with_score r))
OfferGives root old r (Err WrongSize) new = (r.table.states ≢ root.states) × (new ≡ old)
OfferGives root old r (Err NotOpen) new = (r.table.states ≡ root.states) × IsElsewhere root old r.table × (new ≡ old)
OfferGives root old r (Err (IsRefused f)) new = IsJudged root old r × IsUnfitBy f r × (new ≡ old)
OfferGives root old r (Err NoMemory) new = IsJudged root old r × (new ≡ old)

-- What a board says of the best of a table.

-- the table is neither open nor recorded; it is, but it isn't closed; or it is closed, and these are the greatest number
-- of steps and the greatest score recorded in its tree
abbrev pub IsBound : Packed → List Recorded → Packed → Bound → Type 0
IsBound root rs t Unknown = IsElsewhere root rs t
IsBound root rs t Open = (IsElsewhere root rs t → ⊥) × (IsClosed root (mark_in rs) t → ⊥)
IsBound root rs t (Closed best ones) =
    IsClosed root (mark_in rs) t × IsGreatestRecorded (λ x k. k) (mark_in rs) t best
    × IsGreatestRecorded (λ x k. score_at (entry_of x) k) (mark_in rs) t ones
