use Rattle.std.proofs.Common.{Err}
use Rattle.std.proofs.lemmas.Result.{err_from_is_err_and}
use Rattle.wire.specs.Terms.{scene, seen}
use Rattle.wire.proofs.Answers.{faulted_by}
use Rattle.peers.proofs.pool_core.Core.hand.Goals as goal

pub returns-in_err-fulfil-clause-err : goal.returns-in_err-fulfil-clause-err
returns-in_err-fulfil-clause-err g c =
    let p = err_from_is_err_and c.from_residual-in_err-fulfil.result c.from_residual-in_err-fulfil.ensures.1 in
    rw (p.1, p.2)
    (faulted_by g.N.Node.answers g.N.Node.is_stopped
    (scene c.args.self.now.node (g.W.LedgerOut.text c.args.self.now.ledger) (g.L.Link.sent c.args.link.now))
    (scene c.fulfil.new.node (g.W.LedgerOut.text c.fulfil.new.ledger) (g.L.Link.sent c.fulfil.new.link))
    (seen c.args.event) c.in_ok-out.out c.on.new.self (Err c.in_err-fulfil.field-0.0) c.in_ok-out.ensures.answer c.in_err-fulfil.ensures.faults
    (λ e. let p = c.in_err-fulfil.ensures.link e in (p.0, p.1, p.2))
    (λ e. let p = c.in_err-fulfil.ensures.ledger e in (p.0, p.1, p.2)))
