-- Of what it is said why it is refused: of what is refused, and of nothing that stands. The words are said by no definition.
use Rattle.std.specs.Prelude.{Option, Some, None, Result, Ok, Err, ⊤}
use Rattle.kind_evidence.specs.declared.verdicts.Refused.{Refused}
use Rattle.cert.specs.Terms.{IsCertified, IsRefusedBy, Recorded}
use Rattle.cert.specs.declared.record.RecordFault.{RecordFault}

abbrev pub TellsWhy : {A : Type 0} → Result Recorded RecordFault → Option A → Type 0
TellsWhy {A} (Err f) (Some words) = ⊤
TellsWhy {A} (Err f) None = ⊥
TellsWhy {A} (Ok r) (Some words) = (why : Refused) × IsRefusedBy why r
TellsWhy {A} (Ok r) None = IsCertified r
