use Rattle.std.proofs.Common.{◌≡◌, ℕ, List, ◌++◌}
use Rattle.std.specs.Vec.Iter.{into_iter_items}
use Rattle.cmd_ledgers.specs.Report.{table_lines, Passes}
use Rattle.cmd_ledgers.proofs.board_report.pass_tables.Given as goal

-- some lines have passed, and they and those of the tables that are left are the lines of all
abbrev pub invariant-loop-table : goal.invariant-loop-table
invariant-loop-table g l = (done : List ℕ)
    × Passes (g.W.Write.contents l.fn.answers) l.fn.piece.items (g.W.Write.contents l.answers) l.piece.items done
    × (done ++ table_lines l.name (into_iter_items l.table-iterator) ≡ table_lines l.name (into_iter_items l.fn.tables))
