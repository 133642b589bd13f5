use Rattle.std.proofs.Common.{◌≡◌, ℕ, ◌+◌, ◌-◌, ◌^◌, length}
use Rattle.ledger.specs.Terms.{AreAll}
use Rattle.cmd_ledgers.specs.Terms.{AtSomeTime, StaysInStep}
use Rattle.cmd_parts.specs.Settle.{IsOpenBelow, SettlesMany}
use Rattle.cmd_parts.proofs.settle.settle_below.Given as goal

-- so many tables were settled, and those are due that are open and have few entries
abbrev pub invariant-rounds : goal.invariant-rounds
invariant-rounds g l = (k : ℕ) × SettlesMany (AtSomeTime _ g.D.Decider.answers) (IsOpenBelow l.limit) k l.fn.board (g.L.LedgerOut.text l.fn.ledger) l.board (g.L.LedgerOut.text l.ledger)
    × (length l.board.records ≡ length l.fn.board.records + k)
    × StaysInStep l.fn.board (g.L.LedgerOut.text l.fn.ledger) l.board (g.L.LedgerOut.text l.ledger)
    × AreAll (IsOpenBelow l.limit l.board) l.due.items

abbrev pub decreases-rounds : goal.decreases-rounds
decreases-rounds g l = 2 ^ 64 - length l.board.records
