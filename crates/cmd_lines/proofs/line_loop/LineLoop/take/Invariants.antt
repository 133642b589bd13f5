use Rattle.std.proofs.Common.{length}
use Rattle.cmd_lines.specs.inside.{TakesMoreUpTo}
use Rattle.cmd_lines.proofs.line_loop.LineLoop.take.Given as goal

-- what stands before the rest of the piece is taken
abbrev pub invariant-lines : goal.invariant-lines
invariant-lines g l = TakesMoreUpTo g.T.LineTaker.takes l.piece l.left l.fn.self l.fn.taker l.self l.taker

-- each turn takes a line from the piece
abbrev pub decreases-lines : goal.decreases-lines
decreases-lines g l = length l.left
