use Rattle.cmd_lines.specs.inside.{HasTakenFrom}
use Rattle.cmd_lines.proofs.line_loop.LineLoop.take_from.Given as goal

-- what was read was taken, and the rest of the limit is left
abbrev pub invariant-pieces : goal.invariant-pieces
invariant-pieces g l = HasTakenFrom g.T.LineTaker.takes l.fn.self l.fn.taker (g.R.Read.remaining l.fn.from) l.limit l.self l.taker (g.R.Read.remaining l.from) l.left

abbrev pub decreases-pieces : goal.decreases-pieces
decreases-pieces g l = l.left
