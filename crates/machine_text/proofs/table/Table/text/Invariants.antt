use Rattle.std.proofs.Common.{◌*◌}
use Rattle.machine_text.proofs.Rows.{AreWritten}
use Rattle.machine_text.proofs.table.Table.text.Given as goal

-- the bars stand, and so do the bytes of the rows before this one
abbrev pub invariant-loop-row : goal.invariant-loop-row
invariant-loop-row l = AreWritten l.self (2 * l.row) l.buf
