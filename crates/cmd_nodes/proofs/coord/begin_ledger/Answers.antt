use Rattle.std.proofs.lemmas.Result.{on_ok_weaker}
use Rattle.cmd_nodes.proofs.coord.begin_ledger.Goals as goal

pub returns-in-Ok : goal.returns-in-Ok
returns-in-Ok g c = on_ok_weaker c.keep_answer.result (λ kept. (c.in-Ok.out, c.in-Ok.is, kept)) c.keep_answer.ensures.ok
