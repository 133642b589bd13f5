-- When a record is certified, and what comes of asking finders.
use Rattle.std.specs.Prelude.{◌≡◌, ℕ, ◌<◌, ◌⊎◌, Option, Some, None, List, [], ◌∷◌, IsSome, MatchOption}
use Rattle.machine_text.specs.Terms.{Packed, entry_of}
use Rattle.machine_text.specs.declared.table.Pair.{Pair}
use Rattle.law_turing.specs.Terms.{HaltsOn, score_at}
use Rattle.kind_evidence.specs.declared.verdicts.Ending.{Ending}
use Rattle.kind_evidence.specs.declared.verdicts.Ending.TheVariants.{Halts, Never}
use Rattle.kind_evidence.specs.declared.verdicts.Refused.{Refused}
use Rattle.kind_evidence.specs.declared.verdicts.Refused.TheVariants.{Fails, TooLong, TooWide, NotSeen, NoMemory}
use Rattle.cert.specs.Claim.{Recorded, IsWithin, IsWide, MayOverflow, MayGoUnseen, Stands, ending_by, shown_by, Claim, HaltsClaim, NeverClaim, NoClaim}
use Rattle.cert.specs.declared.judgement.Judged.{Judged}
use Rattle.run.specs.Terms.{HaltsAsClaimed, IsWithinReach}
use Rattle.run.specs.declared.halting.HaltsIn.{HaltsIn}
use Rattle.cert.specs.Kinds.{owned_claim, owned_recorded}
use Rattle.cert.specs.declared.judgement.Decided.{Decided}

-- When a record is certified, why its certificate is refused, and what it shows where it stands.

-- what is claimed stands, within the limits; where nothing is claimed nothing has to
pub record IsCertified (r : Recorded) : Type 0 where
  pub within : IsWithin r.claim
  pub narrow : IsWide r.claim r.table → ⊥
  pub stands : Stands r.claim r.table

-- why a claim is refused: it doesn't stand, it asks for more than its limit, or for more paths than may be kept; or its
-- check ended without having seen whether it stands, at a number that is too large or otherwise
abbrev pub IsRefusedBy : Refused → Recorded → Type 0
IsRefusedBy Fails r = IsWithin r.claim × (IsWide r.claim r.table → ⊥) × (Stands r.claim r.table → ⊥)
IsRefusedBy TooLong r = IsWithin r.claim → ⊥
IsRefusedBy TooWide r = IsWithin r.claim × (IsWide r.claim r.table ⊎ MayOverflow r.claim r.table)
IsRefusedBy NotSeen r = MayGoUnseen r.claim r.table
IsRefusedBy NoMemory r = ⊥

-- a refusal by which a record is unfit: it isn't certified, or its check may overflow
abbrev pub IsUnfitBy : Refused → Recorded → Type 0
IsUnfitBy Fails r = IsRefusedBy Fails r
IsUnfitBy TooLong r = IsRefusedBy TooLong r
IsUnfitBy TooWide r = IsRefusedBy TooWide r
IsUnfitBy NotSeen r = ⊥
IsUnfitBy NoMemory r = ⊥

-- the table halts in so many steps, on this pair of one of its states and a symbol
pub record HaltsOnPair (t : Packed) (k : ℕ) (pair : Pair) : Type 0 where
  pub inside : pair.state.0 < t.states
  pub halts : HaltsOn (entry_of t) k pair.state.0 pair.symbol

-- with the claim that a table halts comes the pair on which it does, with another none
abbrev pub IsPairOf : Option Ending → Packed → Option Pair → Type 0
IsPairOf (Some (Halts k)) t (Some pair) = HaltsOnPair t k pair
IsPairOf (Some (Halts k)) t None = ⊥
IsPairOf (Some Never) t pair = pair ≡ None
IsPairOf None t pair = pair ≡ None

-- a record is certified, and this is the verdict that its claim shows, with its pair
abbrev pub IsShownBy : Recorded → Judged → Type 0
IsShownBy r judged = IsCertified r × (judged.verdict ≡ shown_by r.claim r.table)
    × IsPairOf (ending_by r.claim) r.table judged.halts_on

-- Records of tables that halt with their score, and without.

-- a number of steps with the score that the table then has
abbrev pub scored_count : Packed → HaltsIn → HaltsIn
scored_count p e = record { steps = e.steps; ones = Some (score_at (entry_of p) e.steps); reach = e.reach }

-- the claim that a table halts with the table's score; every other claim as it is
abbrev pub scored : Packed → Claim → Claim
scored p (HaltsClaim e) = HaltsClaim (scored_count p e)
scored p (NeverClaim r) = NeverClaim r
scored p NoClaim = NoClaim

-- the claim that a table halts without a score; every other claim as it is
abbrev pub unscored : Claim → Claim
unscored (HaltsClaim e) = HaltsClaim (record { steps = e.steps; ones = None; reach = e.reach })
unscored (NeverClaim r) = NeverClaim r
unscored NoClaim = NoClaim

abbrev pub with_score : Recorded → Recorded
with_score r = record { table = r.table; claim = scored r.table r.claim }

abbrev pub without_score : Recorded → Recorded
without_score r = record { table = r.table; claim = unscored r.claim }

-- what becomes of a record whose score is looked for: it has it, where the record is certified
abbrev pub GetsScore : Recorded → Recorded → Type 0
GetsScore r s = (IsCertified r × (s ≡ with_score r)) ⊎ ((s ≡ r) × (IsCertified r → with_score r ≡ r))

abbrev pub GetsOnes : Packed → HaltsIn → HaltsIn → Type 0
GetsOnes p e f =
    (IsWithinReach e.reach e.steps × HaltsAsClaimed e p × (f ≡ scored_count p e))
    ⊎ ((f ≡ e) × (IsWithinReach e.reach e.steps → HaltsAsClaimed e p → scored_count p e ≡ e))

-- What comes of asking finders in their order.

-- what a finder gives for a table is taken: a claim that says something and is certified
abbrev pub ShowsVerdict : Packed → Option Claim → Type 0
ShowsVerdict p None = ⊥
ShowsVerdict p (Some c) = IsSome (ending_by c) × IsCertified (record { table = p; claim = c })

-- what a finder gives for a table is passed over: it isn't what is taken, or its check may overflow
abbrev pub IsPassedOver : Packed → Option Claim → Type 0
IsPassedOver p None = Unit {0}
IsPassedOver p (Some c) = ShowsVerdict p (Some c) → MayOverflow c p

-- a record of a table that says something and is certified, with what it shows
abbrev pub IsShownRecord : Packed → Decided → Type 0
IsShownRecord p d = (d.record.table ≡ p) × IsShownBy (owned_recorded d.record) d.judged
    × ShowsVerdict p (Some (owned_claim d.record.certificate))

-- what comes of what is given: a record of it, or it is passed over
abbrev pub ComesOfClaim : Packed → Option Claim → Option Decided → Type 0
ComesOfClaim p given o = MatchOption o (IsPassedOver p given)
    (λ d. IsShownRecord p d × (given ≡ Some (owned_claim d.record.certificate)))

-- finders are asked in turn, each gives a claim or none, and the first that isn't passed over is the answer; where all
-- are, nothing is claimed
unfoldable pub Answered : {F : Type 0} → (F → Option Claim → Type 0) → Packed → List F → Claim → Type 0
Answered gives p [] c = c ≡ NoClaim
Answered gives p (f ∷ fs) c = (o : Option Claim) × gives f o
    × ((ShowsVerdict p o × (o ≡ Some c)) ⊎ (IsPassedOver p o × Answered gives p fs c))
