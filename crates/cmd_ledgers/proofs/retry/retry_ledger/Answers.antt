use Rattle.std.proofs.lemmas.Result.{on_err_weaker}
use Rattle.cmd_ledgers.specs.Retry.{AtSomeTime, LeavesRetried}
use Rattle.cmd_ledgers.proofs.ReadLedgers.{leaves_loaded}
use Rattle.cmd_ledgers.proofs.retry.retry_ledger.Goals as goal

pub returns-clause-leaves : goal.returns-clause-leaves
returns-clause-leaves g c =
    on_err_weaker c.retry_loaded.result (λ leaves. leaves_loaded (LeavesRetried (AtSomeTime _ g.D.Decider.answers)) _ _ _ _ c.in_ok-board.board c.in_ok-board.left c.in_ok-board.ensures leaves) c.retry_loaded.ensures.leaves
