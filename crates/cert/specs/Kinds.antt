-- What the certificates and records of the code claim.
use Rattle.cert.specs.Claim.{Claim, HaltsClaim, NeverClaim, NoClaim, Recorded, CycleReason, TranslatedReason, BackwardReason, NgramReason, FarReason, ListedReason, CountedReason, RulesReason, NamedReason}
use Rattle.std.specs.Prelude.{Result, Ok, Err}
use Rattle.far.specs.Terms.{automata_of, owned_automata, texts_of, owned_texts}
use Rattle.kind_counted.specs.Terms.{coset_texts_of, owned_coset_texts}
use Rattle.kind_rules.specs.Terms.{rule_texts_of, owned_rule_texts}
use Rattle.ngram_cps.specs.Terms.{lists_of, owned_lists}
use Rattle.cert.specs.declared.certificate.Certificate.{Certificate}
use Rattle.cert.specs.declared.certificate.Certificate.TheVariants.{Halts, Cycle, Translated, Backward, Ngram, Far, Listed, Counted, Rules, Named, Undecided}
use Rattle.cert.specs.declared.certificate.OwnedCertificate.{OwnedCertificate}
use Rattle.cert.specs.declared.certificate.OwnedCertificate.TheVariants.{Halts as OwnedHalts, Cycle as OwnedCycle, Translated as OwnedTranslated, Backward as OwnedBackward, Ngram as OwnedNgram, Far as OwnedFar, Listed as OwnedListed, Counted as OwnedCounted, Rules as OwnedRules, Named as OwnedNamed, Undecided as OwnedUndecided}
use Rattle.cert.specs.declared.record.Record.{Record}
use Rattle.cert.specs.declared.record.OwnedRecord.{OwnedRecord}
use Rattle.cert.specs.declared.record.RecordFault.{RecordFault}

abbrev pub claim_of : Certificate → Claim
claim_of (Halts e) = HaltsClaim e
claim_of (Cycle e) = NeverClaim (CycleReason e)
claim_of (Translated e) = NeverClaim (TranslatedReason e)
claim_of (Backward e) = NeverClaim (BackwardReason e)
claim_of (Ngram e) = NeverClaim (NgramReason (lists_of e))
claim_of (Far e) = NeverClaim (FarReason (automata_of e))
claim_of (Listed e) = NeverClaim (ListedReason (texts_of e))
claim_of (Counted e) = NeverClaim (CountedReason (coset_texts_of e))
claim_of (Rules e) = NeverClaim (RulesReason (rule_texts_of e))
claim_of (Named e) = NeverClaim (NamedReason e)
claim_of Undecided = NoClaim

abbrev pub owned_claim : OwnedCertificate → Claim
owned_claim (OwnedHalts e) = HaltsClaim e
owned_claim (OwnedCycle e) = NeverClaim (CycleReason e)
owned_claim (OwnedTranslated e) = NeverClaim (TranslatedReason e)
owned_claim (OwnedBackward e) = NeverClaim (BackwardReason e)
owned_claim (OwnedNgram e) = NeverClaim (NgramReason (owned_lists e.value))
owned_claim (OwnedFar e) = NeverClaim (FarReason (owned_automata e.value))
owned_claim (OwnedListed e) = NeverClaim (ListedReason (owned_texts e.value))
owned_claim (OwnedCounted e) = NeverClaim (CountedReason (owned_coset_texts e.value))
owned_claim (OwnedRules e) = NeverClaim (RulesReason (owned_rule_texts e.value))
owned_claim (OwnedNamed e) = NeverClaim (NamedReason e)
owned_claim OwnedUndecided = NoClaim

abbrev pub recorded : Record → Recorded
recorded r = record { table = r.table; claim = claim_of r.certificate }

abbrev pub owned_recorded : OwnedRecord → Recorded
owned_recorded r = record { table = r.table; claim = owned_claim r.certificate }

-- what was read, as records apart from how they are kept
abbrev pub read_as : Result Record RecordFault → Result Recorded RecordFault
read_as (Ok r) = Ok (recorded r)
read_as (Err f) = Err f
