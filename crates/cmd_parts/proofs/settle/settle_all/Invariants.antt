use Rattle.std.proofs.Common.{◌≡◌, ℕ, ◌+◌, ◌<◌, ◌≤◌, ◌^◌, length, get_or}
use Rattle.machine_text.specs.Terms.{Packed}
use Rattle.wire.specs.Terms.{grown}
use Rattle.cmd_ledgers.specs.Terms.{HasGrown, AtSomeTime, StaysInStep}
use Rattle.cmd_parts.specs.Settle.{IsOpenBelow, SettlesMany}
use Rattle.cmd_parts.proofs.settle.settle_all.Given as goal

-- those before the place were settled, the ledger is only behind by the lines that are gathered, and the others are still due
abbrev pub invariant-loop-t : goal.invariant-loop-t
invariant-loop-t g l = SettlesMany (AtSomeTime _ g.D.Decider.answers) (IsOpenBelow l.limit) l.t-index l.fn.board (g.L.LedgerOut.text l.fn.ledger) l.board (grown (g.L.LedgerOut.text l.ledger) l.lines.items)
    × (length l.board.records ≡ length l.fn.board.records + l.t-index)
    × (0 < l.t-index → length l.board.records < 2 ^ 64)
    × StaysInStep l.fn.board (g.L.LedgerOut.text l.fn.ledger) l.board (grown (g.L.LedgerOut.text l.ledger) l.lines.items)
    × HasGrown (g.L.LedgerOut.text l.fn.ledger) (g.L.LedgerOut.text l.ledger)
    × ((k : ℕ) (d : Packed) → l.t-index ≤ k → k < length l.due → IsOpenBelow l.limit l.board (get_or l.due k d))
