use Rattle.std.proofs.Common.{◌≡◌, ℕ, ◌+◌, ◌-◌, ◌^◌, length}
use Rattle.wire.specs.Terms.{grown}
use Rattle.cmd_ledgers.specs.Terms.{HasGrown, AtSomeTime, StaysInStep}
use Rattle.cmd_parts.specs.Settle.{ComesFirst, SettlesMany}
use Rattle.cmd_parts.proofs.settle.settle_board.Given as goal

-- so many tables were settled, of which the board has as many records more, and the ledger, which has only grown, stays in
-- step by the lines that are gathered
abbrev pub invariant-loop-t : goal.invariant-loop-t
invariant-loop-t g l = (k : ℕ) × SettlesMany (AtSomeTime _ g.D.Decider.answers) ComesFirst k l.fn.board (g.L.LedgerOut.text l.fn.ledger) l.board (grown (g.L.LedgerOut.text l.ledger) l.lines.items)
    × (length l.board.records ≡ length l.fn.board.records + k)
    × StaysInStep l.fn.board (g.L.LedgerOut.text l.fn.ledger) l.board (grown (g.L.LedgerOut.text l.ledger) l.lines.items)
    × HasGrown (g.L.LedgerOut.text l.fn.ledger) (g.L.LedgerOut.text l.ledger)

abbrev pub decreases-loop-t : goal.decreases-loop-t
decreases-loop-t g l = 2 ^ 64 - length l.board.records
