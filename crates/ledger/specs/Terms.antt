-- The terms of this crate: what others cite of its definitions, under one name.
pub use Rattle.ledger.specs.Faults.{offer_fault_number}
pub use Rattle.ledger.specs.LedgerText.{HasHeader, HasNoHeader, IsLedgerOf, IsTaken, IsTornHeader, LoadGives, OffersLine, PeekGives, ReadsAs, ReadsAsNone, ReadsIn, gained_line, header_words, ledger_line}
unfoldable pub use Rattle.ledger.specs.LedgerText.{ledger_text}
pub use Rattle.ledger.specs.Limits.{header_byte_limit}
pub use Rattle.ledger.specs.Lists.{AreKept, held}
pub use Rattle.ledger.specs.Loading.{IsFed, Loading, StandsAfter}
pub use Rattle.ledger.specs.Merging.{MergeGives}
pub use Rattle.ledger.specs.Offers.{IsKnown, KeepsTree, OfferGives}
pub use Rattle.ledger.specs.Reading.{FeedsAll, IsAllRead, IsBrokenOff, IsRead, StopsReading}
pub use Rattle.ledger.specs.Records.{AreFitAfter, Contents, HasScore, IsBoard, IsBoardOf, IsFit, IsHeld, IsHoldout, IsOpenOn, IsSigma, Resolves, ending_in, ending_where, mark_by, mark_in, mark_of}
unfoldable pub use Rattle.ledger.specs.Records.{claim_in, resolved, same_table}
pub use Rattle.ledger.specs.Tally.{AreAll, AreSoMany, HaltsAfter, HasOnes, IsChampion, IsGreatestCount, IsGreatestOnes, IsHalting, IsNeverHalting, IsOnesChampion, IsStatus, IsTally, IsTreeChampion, IsTreeOnesChampion, IsTreeTally}
