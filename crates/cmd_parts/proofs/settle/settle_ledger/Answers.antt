use Rattle.std.proofs.lemmas.Result.{on_err_weaker}
use Rattle.cmd_ledgers.specs.Terms.{AtSomeTime}
use Rattle.cmd_ledgers.proofs.ReadLedgers.{leaves_loaded}
use Rattle.cmd_parts.specs.Settle.{ComesFirst, LeavesSettled}
use Rattle.cmd_parts.proofs.settle.settle_ledger.Goals as goal

pub returns-clause-leaves : goal.returns-clause-leaves
returns-clause-leaves g c =
    on_err_weaker c.settle_loaded.result (λ leaves. leaves_loaded (LeavesSettled (AtSomeTime _ g.D.Decider.answers) ComesFirst) _ _ _ _ c.in_ok-board.board c.in_ok-board.left c.in_ok-board.ensures leaves) c.settle_loaded.ensures.leaves
