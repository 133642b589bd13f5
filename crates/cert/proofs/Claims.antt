-- Which claims are true, certified, refused or found, and what scores leave of them.
use Rattle.std.proofs.Common.{◌≡◌, refl, sym, ap, ◌∙◌, inl, inr, IfSome, ◌≢◌, ◌≤◌, ℕ, suc, ◌+◌, ◌<◌, List, Option, Some, None, IsSome, length, drop, set, get_or, subst, arith}
use Rattle.std.specs.Prelude.{option_map}
use Rattle.std.proofs.lemmas.List.{drop-set-lt, drop_all}
use Rattle.std.proofs.Math.Seq.{drop-cons}
use Rattle.machine_text.specs.Terms.{Packed, IsTable, entry_of}
use Rattle.run.specs.declared.halting.HaltsIn.{HaltsIn}
use Rattle.kind_evidence.specs.Terms.{ending_of, IsTrueOf}
use Rattle.cert.specs.Claim.{Claim, HaltsClaim, NeverClaim, NoClaim, Recorded, ending_by, shown_by, Stands, with_kind, MayOverflow}
use Rattle.cert.specs.Certified.{IsCertified, IsShownBy, scored, unscored, with_score, without_score, GetsScore, GetsOnes, IsRefusedBy, IsUnfitBy, IsPairOf, ShowsVerdict, IsPassedOver, ComesOfClaim, Answered}
use Rattle.cert.specs.declared.judgement.Judged.{Judged}
use Rattle.cert.specs.Kinds.{recorded, owned_claim}
use Rattle.cert.specs.declared.record.Record.{Record}
use Rattle.cert.specs.declared.certificate.Certificate.TheVariants.{Halts}
use Rattle.run.proofs.HaltingClaims.{claimed_is_true}
use Rattle.run.specs.Terms.{HaltsAsClaimed, IsWithinReach}
use Rattle.kind_evidence.specs.declared.verdicts.Refused.{Refused}
use Rattle.kind_evidence.specs.declared.verdicts.Refused.TheVariants.{Fails, TooLong, TooWide, NotSeen, NoMemory}
use Rattle.kind_evidence.specs.declared.verdicts.Ending.TheVariants.{Never}
use Rattle.kind_evidence.specs.declared.verdicts.Verdict.TheVariants.{Never as NeverHalts}
use Rattle.cert.specs.declared.judgement.Decided.{Decided}

-- What scores leave of a claim: how the run ends by it, its verdict, and whether it is certified.
pub ends_as_shown : (c : Claim) (p : Packed) → option_map ending_of (shown_by c p) ≡ ending_by c
ends_as_shown (HaltsClaim e) p = refl
ends_as_shown (NeverClaim r) p = refl
ends_as_shown NoClaim p = refl

pub scored_ends : (p : Packed) (c : Claim) → ending_by (scored p c) ≡ ending_by c
scored_ends p (HaltsClaim e) = refl
scored_ends p (NeverClaim r) = refl
scored_ends p NoClaim = refl

pub scored_shows : (p q : Packed) (c : Claim) → shown_by (scored p c) q ≡ shown_by c q
scored_shows p q (HaltsClaim e) = refl
scored_shows p q (NeverClaim r) = refl
scored_shows p q NoClaim = refl

pub unscored_ends : (c : Claim) → ending_by (unscored c) ≡ ending_by c
unscored_ends (HaltsClaim e) = refl
unscored_ends (NeverClaim r) = refl
unscored_ends NoClaim = refl

-- a score that is given again stays
pub scored_twice : (p : Packed) (c : Claim) → scored p (scored p c) ≡ scored p c
scored_twice p (HaltsClaim e) = refl
scored_twice p (NeverClaim r) = refl
scored_twice p NoClaim = refl

pub scored_again : (p : Packed) (c : Claim) → scored p (unscored c) ≡ scored p c
scored_again p (HaltsClaim e) = refl
scored_again p (NeverClaim r) = refl
scored_again p NoClaim = refl

certified_scored : (p : Packed) (c : Claim) → IsCertified (record { table = p; claim = c }) → IsCertified (record { table = p; claim = scored p c })
certified_scored p (HaltsClaim e) certified = record { within = certified.within; narrow = certified.narrow; stands = record { halts = certified.stands.halts; score = refl } }
certified_scored p (NeverClaim r) certified = certified
certified_scored p NoClaim certified = certified

-- what is certified stays so with its score, and without one
pub score_certified : (r : Recorded) → IsCertified r → IsCertified (with_score r)
score_certified r = certified_scored r.table r.claim

-- and shows the same with its score
shown_by_scored : (p : Packed) (c : Claim) (judged : Judged) → IsShownBy (record { table = p; claim = c }) judged
    → IsShownBy (record { table = p; claim = scored p c }) judged
shown_by_scored p (HaltsClaim e) judged shown = (certified_scored p (HaltsClaim e) shown.0, shown.1, shown.2)
shown_by_scored p (NeverClaim r) judged shown = shown
shown_by_scored p NoClaim judged shown = shown

pub score_shown : (r : Recorded) (judged : Judged) → IsShownBy r judged → IsShownBy (with_score r) judged
score_shown r = shown_by_scored r.table r.claim

certified_unscored : (p : Packed) (c : Claim) → IsCertified (record { table = p; claim = c }) → IsCertified (record { table = p; claim = unscored c })
certified_unscored p (HaltsClaim e) certified = record { within = certified.within; narrow = certified.narrow; stands = record { halts = certified.stands.halts; score = tt } }
certified_unscored p (NeverClaim r) certified = certified
certified_unscored p NoClaim certified = certified

pub unscored_certified : (r : Recorded) → IsCertified r → IsCertified (without_score r)
unscored_certified r = certified_unscored r.table r.claim

-- a score that stands is the table's
pub gets_score : (p : Packed) (e f : HaltsIn) → GetsOnes p e f → GetsScore (record { table = p; claim = HaltsClaim e }) (record { table = p; claim = HaltsClaim f })
gets_score p e f (inl found) = inl (
  record { within = found.0; narrow = λ wide. wide; stands = found.1 },
  ap (λ x. record { table = p; claim = HaltsClaim x }) found.2,
)
gets_score p e f (inr same) = inr (
  ap (λ x. record { table = p; claim = HaltsClaim x }) same.0,
  λ certified. ap (λ x. record { table = p; claim = HaltsClaim x }) (same.1 certified.within certified.stands),
)

pub gets_halting : (r : Record) (e f : HaltsIn) → r.certificate ≡ Halts e → GetsOnes r.table e f → GetsScore (recorded r) (record { table = r.table; claim = HaltsClaim f })
gets_halting r e f is ones = rw is (gets_score r.table e f ones)

-- what gets its score has it, where it is certified
pub has_score : (r s : Recorded) → GetsScore r s → IsCertified r → s ≡ with_score r
has_score r s (inl found) certified = found.1
has_score r s (inr same) certified = same.0 ∙ sym (same.1 certified)

-- A claim that stands makes its verdict true.
pub standing_is_true : (c : Claim) (p : Packed) → IsTable p → Stands c p → IfSome (shown_by c p) (λ v. IsTrueOf v (entry_of p))
standing_is_true (HaltsClaim e) p table stands = claimed_is_true e p stands
standing_is_true (NeverClaim r) p table stands = (with_kind r).kind.law (with_kind r).claimed p table stands
standing_is_true NoClaim p table stands = tt

-- What is refused isn't certified, or its check may overflow.
pub refused_or_certified : (f : Refused) (r : Recorded) → IsUnfitBy f r → IsCertified r → MayOverflow r.claim r.table
refused_or_certified Fails r refused certified = absurd (refused.2 certified.stands)
refused_or_certified TooLong r refused certified = absurd (refused certified.within)
refused_or_certified TooWide r refused certified = elim refused.1 [ inl wide ↦ absurd (certified.narrow wide) | inr overflows ↦ overflows ]
refused_or_certified NotSeen r refused certified = absurd refused
refused_or_certified NoMemory r refused certified = absurd refused

-- a halting table's record is certified, or refused, as its check says
pub halts_certified : (r : Record) (e : HaltsIn) → r.certificate ≡ Halts e → IsWithinReach e.reach e.steps → HaltsAsClaimed e r.table → IsCertified (recorded r)
halts_certified r e is within stands = rw is (record { within = within; narrow = λ wide. wide; stands = stands })

refused_for : (f : Refused) (e : HaltsIn) (p : Packed) → (f ≡ Fails → IsWithinReach e.reach e.steps × (HaltsAsClaimed e p → ⊥)) → (f ≡ TooLong → IsWithinReach e.reach e.steps → ⊥) → (f ≡ TooWide → ⊥)
    → (f ≡ NotSeen → ⊥) → f ≢ NoMemory → IsRefusedBy f (record { table = p; claim = HaltsClaim e })
refused_for Fails e p fails long wide seen memory = ((fails refl).0, (λ w. w), (fails refl).1)
refused_for TooLong e p fails long wide seen memory = long refl
refused_for TooWide e p fails long wide seen memory = absurd (wide refl)
refused_for NotSeen e p fails long wide seen memory = absurd (seen refl)
refused_for NoMemory e p fails long wide seen memory = memory refl

pub halts_refused : (r : Record) (e : HaltsIn) (f : Refused) → r.certificate ≡ Halts e → (f ≡ Fails → IsWithinReach e.reach e.steps × (HaltsAsClaimed e r.table → ⊥)) → (f ≡ TooLong → IsWithinReach e.reach e.steps → ⊥) → (f ≡ TooWide → ⊥)
    → (f ≡ NotSeen → ⊥) → f ≢ NoMemory → IsRefusedBy f (recorded r)
halts_refused r e f is fails long wide seen memory = rw is (refused_for f e r.table fails long wide seen memory)

-- Finders that are asked in turn.
pub one_taken : (p : Packed) (given : Option Claim) (o : Option Decided) (d : Decided) → o ≡ Some d → ComesOfClaim p given o → ShowsVerdict p given × (given ≡ Some (owned_claim d.record.certificate))
one_taken p given o d is one = let made = subst (ComesOfClaim p given) is one in (subst (ShowsVerdict p) (sym made.1) made.0.2, made.1)

pub one_left : (p : Packed) (given : Option Claim) (o : Option Decided) → o ≡ None → ComesOfClaim p given o → IsPassedOver p given
one_left p given o is one = subst (ComesOfClaim p given) is one

-- a claim that a table never halts, where it is certified
pub never_shown : (p : Packed) (claim : Claim) → ending_by claim ≡ Some Never → Some NeverHalts ≡ shown_by claim p
never_shown p (HaltsClaim e) is = cc
never_shown p (NeverClaim r) is = refl
never_shown p NoClaim is = cc

pub never_paired : (p : Packed) (claim : Claim) → ending_by claim ≡ Some Never → IsPairOf (ending_by claim) p None
never_paired p claim is = subst (λ o. IsPairOf o p None) (sym is) refl

pub never_said : (claim : Claim) → ending_by claim ≡ Some Never → IsSome (ending_by claim)
never_said claim is = subst (λ o. IsSome o) (sym is) refl

module _ {F : Type 0} (gives : F → Option Claim → Type 0) (p : Packed) where
  -- so many were asked, and the answer of the others is that of all
  pub record IsAskedTo (k : ℕ) (now all : List F) : Type 0 where
    pub each : (c : Claim) → Answered gives p (drop k now) c → Answered gives p all c

  pub asked_none : (all : List F) → IsAskedTo 0 all all
  asked_none all = record { each = λ c a. a }

  pub asked_more : (k : ℕ) (now all : List F) (d v : F) (o : Option Claim) → IsAskedTo k now all → k < length now → gives (get_or now k d) o → IsPassedOver p o → IsAskedTo (k + 1) (set now k v) all
  unfolding Answered
  asked_more k now all d v o asked less given none = record {
    each = λ c rest. asked.each c (subst (λ fs. Answered gives p fs c) (sym (drop-cons now k d less)) (o, given, inr (none, subst (λ fs. Answered gives p fs c) (drop-set-lt (k + 1) now k v (omega arith) ∙ ap (λ i. drop i now) (let e : k + 1 ≡ suc k = omega arith in e)) rest)));
  }

  pub asked_found : (k : ℕ) (now all : List F) (d : F) (o : Option Claim) (c : Claim) → IsAskedTo k now all → k < length now → gives (get_or now k d) o → ShowsVerdict p o → o ≡ Some c → Answered gives p all c
  unfolding Answered
  asked_found k now all d o c asked less given taken is = asked.each c (subst (λ fs. Answered gives p fs c) (sym (drop-cons now k d less)) (o, given, inl (taken, is)))

  pub asked_all : (k : ℕ) (now all : List F) → IsAskedTo k now all → length now ≤ k → Answered gives p all NoClaim
  unfolding Answered
  asked_all k now all asked past = asked.each NoClaim (subst (λ fs. Answered gives p fs NoClaim) (sym (drop_all k now past)) refl)
