use Rattle.std.proofs.lemmas.Result.{on_ok_weaker}
use Rattle.wire.specs.Terms.{Ticked}
use Rattle.cmd_nodes.proofs.Coordinators.{answer_serves}
use Rattle.cmd_nodes.proofs.rounds.tick.Goals as goal

pub returns-in-Ok : goal.returns-in-Ok
returns-in-Ok g c =
    on_ok_weaker c.keep_answer.result
    (λ kept. answer_serves c.args.coordinator.now c.on.new.self (Ticked c.args.round) c.in-Ok.out (g.L.LedgerOut.text c.args.ledger.now) (g.L.LedgerOut.text c.keep_answer.new.ledger)
    c.in-Ok.ensures.answer c.in-Ok.ensures.step kept)
    c.keep_answer.ensures.ok
