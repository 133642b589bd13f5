use Rattle.std.proofs.Common.{option_map, Some, sym, ◌∙◌, ap}
use Rattle.std.specs.Option.{option_copied}
use Rattle.ledger.specs.Records.{same_table}
use Rattle.ledger.specs.declared.stored_record.StoredRecord.{StoredRecord}
use Rattle.ledger.proofs.places.tree_count_of.Goals as goal

pub returns-in-Some : goal.returns-in-Some
unfolding same_table
returns-in-Some c = ap Some (c.numbers.ensures ∙ c.tree.ensures) ∙ ap (option_map (λ (k : StoredRecord). k.tree)) (sym (sym c.get.ensures.value ∙ ap option_copied c.in-Some.is))

pub returns-in-None : goal.returns-in-None
unfolding same_table
returns-in-None c = ap (option_map (λ (k : StoredRecord). k.tree)) (sym (sym c.get.ensures.value ∙ ap option_copied c.in-None.is))
