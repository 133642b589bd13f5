use Rattle.std.proofs.Common.{◌≡◌, ◌++◌, map}
use Rattle.std.specs.Vec.Iter.{into_iter_items}
use Rattle.serde_json.specs.View.{view}
use Rattle.cmd_json.specs.Forms.{table_value}
use Rattle.cmd_json.proofs.report.tables_value.Given as goal

-- the texts so far, and those of the tables that are left, are the texts of all
abbrev pub invariant-loop-table : goal.invariant-loop-table
invariant-loop-table l =
    map view l.texts.items ++ map table_value (into_iter_items l.table-iterator) ≡ map table_value (into_iter_items l.fn.tables)
