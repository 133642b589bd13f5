use Rattle.std.proofs.Common.{◌≡◌, ◌++◌}
use Rattle.std.specs.Prelude.{filter_map}
use Rattle.ledger.specs.inside.Counting.{ones_champion_table}
use Rattle.ledger.specs.inside.Stored.{records_of}
use Rattle.ledger.proofs.selected.ones_champion_tables.Given as goal

-- what is found, and what the records that are left give, is what will be found
abbrev pub invariant-loop-table : goal.invariant-loop-table
invariant-loop-table l = l.found.items ++ filter_map (ones_champion_table l.best) (records_of l.table-iterator) ≡ filter_map (ones_champion_table l.fn.best) (records_of l.fn.records.entries)
