-- The terms of this crate: what others cite of its definitions, under one name.
pub use Rattle.cert.specs.Certified.{GetsScore, HaltsOnPair, IsCertified, IsPairOf, IsPassedOver, IsRefusedBy, IsShownBy, IsShownRecord, IsUnfitBy, ShowsVerdict, scored, unscored, with_score, without_score}
pub use Rattle.cert.specs.Claim.{Claim, FarReason, HaltsClaim, IsMadeFor, IsWithin, IsWritable, ListedReason, MayOverflow, NeverClaim, NoClaim, Recorded, Stands, TakesMemory, ending_by, reason_by, score_by, shown_by}
pub use Rattle.cert.specs.Grammar.{claim_from, claim_text, kind_text, record_after, record_fault_number, record_fault_text, record_from, record_with, undecided_by}
unfoldable pub use Rattle.cert.specs.Grammar.{record_of, record_text}
pub use Rattle.cert.specs.Kinds.{claim_of, owned_claim, owned_recorded, read_as, recorded}
pub use Rattle.cert.specs.Limits.{record_byte_limit}
