use Rattle.std.proofs.Common.{List, drop, min, ◌∙◌, ap}
use Rattle.machine_text.specs.Terms.{Packed}
use Rattle.ledger.specs.inside.Stored.{records_of}
use Rattle.ledger.specs.declared.stored_record.StoredRecord.{StoredRecord}
use Rattle.ledger.proofs.Claims.{recorded_from}
use Rattle.ledger.proofs.selected.Records.from_place.Goals as goal

pub returns : goal.returns
returns c =
    ap records_of (c.iter.ensures.rest ∙ c.split_at-parts.ensures.back)
    ∙ (ap (λ (l : List (Packed × StoredRecord)). records_of (drop c.min.result l)) c.as_slice.ensures.entries
    ∙ recorded_from c.args.records.now.entries c.args.place c.min.result (c.min.ensures ∙ ap (min c.args.place) c.len.ensures.len))
