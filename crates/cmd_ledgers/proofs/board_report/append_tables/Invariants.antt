use Rattle.std.proofs.Common.{◌≡◌, ◌++◌, take, length}
use Rattle.std.specs.Vec.Iter.{into_iter_items}
use Rattle.cmd_ledgers.specs.Report.{table_lines}
use Rattle.cmd_ledgers.proofs.board_report.append_tables.Given as goal

-- what was appended, and the lines of the tables that are left, are the lines of all
abbrev pub invariant-loop-table : goal.invariant-loop-table
invariant-loop-table l =
    (l.out.items ++ table_lines l.name (into_iter_items l.table-iterator) ≡ l.fn.out.items ++ table_lines l.name (into_iter_items l.fn.tables))
    × (take (length l.fn.out.items) l.out.items ≡ l.fn.out.items)
