use Rattle.std.proofs.Common.{length}
use Rattle.cmd_parts.specs.inside.Joining.{TakesLedgersUpTo}
use Rattle.cmd_parts.proofs.ledger_loop.LedgerLoop.take.Given as goal

-- what stands before the rest of the piece is taken
abbrev pub invariant-lines : goal.invariant-lines
invariant-lines g l = TakesLedgersUpTo g.T.LedgerTaker.takes l.piece l.left l.fn.self.before.items l.fn.self.line.items l.fn.taker (g.E.Write.contents l.fn.faults)
    l.self.before.items l.self.line.items l.taker (g.E.Write.contents l.faults)

-- each turn takes a line from the piece
abbrev pub decreases-lines : goal.decreases-lines
decreases-lines g l = length l.left
