-- For the code: how a record is stored, beside it the pair on which its table halts, where it says that it does.
use Rattle.std.specs.Prelude.{List, map}
use Rattle.machine_text.specs.Terms.{Packed}
use Rattle.cert.specs.Terms.{Recorded, ending_by, IsPairOf, owned_claim}
use Rattle.ledger.specs.declared.stored_record.StoredRecord.{StoredRecord}

abbrev pub entry_recorded : Packed × StoredRecord → Recorded
entry_recorded e = record { table = e.0; claim = owned_claim e.1.certificate }

abbrev pub records_of : List (Packed × StoredRecord) → List Recorded
records_of es = map entry_recorded es

abbrev pub KnowsPair : Packed × StoredRecord → Type 0
KnowsPair e = IsPairOf (ending_by (owned_claim e.1.certificate)) e.0 e.1.halts_on
