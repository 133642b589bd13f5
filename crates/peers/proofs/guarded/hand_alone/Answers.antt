use Rattle.std.proofs.Common.{Ok, None, sym, subst}
use Rattle.std.proofs.lemmas.Result.{on_ok_weaker}
use Rattle.wire.specs.Terms.{Faulted, scene, seen}
use Rattle.wire.proofs.Answers.{faulted_by}
use Rattle.peers.proofs.Answering.{unlinked}
use Rattle.peers.proofs.guarded.hand_alone.Goals as goal

pub returns-clause-ok : goal.returns-clause-ok
returns-clause-ok g c =
    on_ok_weaker c.fulfil.result
    (λ kept. (
      c.in_ok-out.out,
      subst (λ n. g.N.Node.answers c.args.node.now (seen c.args.event) (Ok c.in_ok-out.out) n) (sym kept.0) c.in_ok-out.ensures.answer,
      kept.1,
    ))
    c.fulfil.ensures.ok

pub returns-clause-err : goal.returns-clause-err
returns-clause-err g c =
    unlinked
    (λ fault. Faulted g.N.Node.answers g.N.Node.is_stopped (scene c.args.node.now (g.W.LedgerOut.text c.args.ledger.now) None) (seen c.args.event) fault
    (scene c.fulfil.new.node (g.W.LedgerOut.text c.fulfil.new.ledger) None))
    c.fulfil.result (λ e. let p = c.fulfil.ensures.link e in p.4 (cc))
    (faulted_by g.N.Node.answers g.N.Node.is_stopped
    (scene c.args.node.now (g.W.LedgerOut.text c.args.ledger.now) None)
    (scene c.fulfil.new.node (g.W.LedgerOut.text c.fulfil.new.ledger) None)
    (seen c.args.event) c.in_ok-out.out c.on.new.self c.fulfil.result c.in_ok-out.ensures.answer c.fulfil.ensures.faults
    (λ e. let p = c.fulfil.ensures.link e in (p.0, p.1, p.2))
    (λ e. let p = c.fulfil.ensures.ledger e in (p.0, p.1, p.2)))
