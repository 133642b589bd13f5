use Rattle.std.proofs.Common.{◌≡◌, ◌++◌}
use Rattle.std.specs.Prelude.{filter_map}
use Rattle.ledger.specs.inside.Counting.{champion_table, ones_champion_table, undecided_table}
use Rattle.ledger.specs.inside.Stored.{records_of}
use Rattle.ledger.proofs.selected.champion_and_undecided_tables.Given as goal

-- what is found, and what the records that are left give, is what will be found
abbrev pub invariant-loop-table : goal.invariant-loop-table
invariant-loop-table l =
    (l.champions.items ++ filter_map (champion_table l.best) (records_of l.table-iterator) ≡ filter_map (champion_table l.fn.best) (records_of l.fn.records.entries))
    × (l.ones_champions.items ++ filter_map (ones_champion_table l.ones) (records_of l.table-iterator) ≡ filter_map (ones_champion_table l.fn.ones) (records_of l.fn.records.entries))
    × (l.holdouts.items ++ filter_map undecided_table (records_of l.table-iterator) ≡ filter_map undecided_table (records_of l.fn.records.entries))
