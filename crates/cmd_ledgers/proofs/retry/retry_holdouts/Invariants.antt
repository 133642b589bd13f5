use Rattle.std.proofs.Common.{◌≡◌, ◌++◌, List}
use Rattle.std.specs.Vec.Iter.{into_iter_items}
use Rattle.machine_text.specs.Terms.{Packed}
use Rattle.ledger.specs.Terms.{IsHoldout, AreAll}
use Rattle.wire.specs.Terms.{grown}
use Rattle.cmd_ledgers.specs.Retry.{HasGrown, StaysInStep, AtSomeTime, AreTried}
use Rattle.cmd_ledgers.proofs.RetriedLedgers.{AreWaiting}
use Rattle.cmd_ledgers.proofs.retry.retry_holdouts.Given as goal

-- the board has its root and its version; the ledger, which has only grown, stays in step with it by the lines that are
-- gathered; those that are left are holdouts, and with those that were tried they are all
abbrev pub invariant-loop-table : goal.invariant-loop-table
invariant-loop-table g l = (l.board.root ≡ l.fn.board.root) × (l.board.format ≡ l.fn.board.format)
    × StaysInStep l.fn.board (g.L.LedgerOut.text l.fn.ledger) l.board (grown (g.L.LedgerOut.text l.ledger) l.lines.items)
    × HasGrown (g.L.LedgerOut.text l.fn.ledger) (g.L.LedgerOut.text l.ledger)
    × AreWaiting l.board.records (into_iter_items l.table-iterator)
    × (tried : List Packed) × AreAll (IsHoldout l.fn.board.records) (tried ++ into_iter_items l.table-iterator)
    × AreTried (AtSomeTime _ g.D.Decider.answers) l.fn.board.format tried l.fn.board.records (g.L.LedgerOut.text l.fn.ledger) l.board.records (grown (g.L.LedgerOut.text l.ledger) l.lines.items)
