use Rattle.cmd_parts.specs.inside.Joining.{HasReadLedgers}
use Rattle.cmd_parts.proofs.ledger_loop.take_ledgers.Given as goal

-- what was read is taken
abbrev pub invariant-loop : goal.invariant-loop
invariant-loop g l = HasReadLedgers g.T.LedgerTaker.takes l.fn.taker (g.R.Read.remaining l.fn.input) (g.R.Read.remaining l.input) (g.E.Write.contents l.fn.faults)
    l.ledgers.before.items l.ledgers.line.items l.taker (g.E.Write.contents l.faults)
