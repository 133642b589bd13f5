use Rattle.std.proofs.Common.{◌+◌, ◌≤◌}
use Rattle.cmd_show.proofs.picture_rows.ones_among.Given as goal

-- each cell holds one at most
abbrev pub invariant-loop-cell : goal.invariant-loop-cell
invariant-loop-cell l = l.from + l.ones ≤ l.cell
