use Rattle.std.proofs.Common.{List, Option, None, [], refl, subst, sym}
use Rattle.lease_core.specs.Terms.{On}
use Rattle.peers.specs.Terms.{PeerState, served}
use Rattle.cmd_nodes.specs.Served.{Listens, traffic}
use Rattle.cmd_nodes.specs.inside.{IsSettled}
use Rattle.std.proofs.lemmas.Result.{err_from_is_err_and}
use Rattle.cmd_nodes.proofs.Coordinators.{nothing_yet, one_by_one}
use Rattle.cmd_nodes.proofs.Traffic.{listens_none, listens_on}
use Rattle.cmd_nodes.proofs.listening.serve_workers.Goals as goal

pub loop-init : goal.loop-init
loop-init g c =
    let text = g.L.LedgerOut.text c.args.ledger.now in
    let takes = g.K.Connections.takes c.args.connections.now in
    let first = served c.args.node.now text [] in
    let before = traffic (g.K.Connections.arrived c.args.connections.now) (g.K.Connections.sent c.args.connections.now) in
    record {
      answered = nothing_yet c.args.node.now.node text;
      takes = λ place bytes count h. h;
      listens = subst (λ (peers : List (Option PeerState)). Listens On takes first (served c.args.node.now text peers) None before before) (sym c.new-peers.ensures)
          (listens_none On takes first before);
    }

pub loop-preserved : goal.loop-preserved
loop-preserved g c =
    let old = g.L.LedgerOut.text c.args.ledger.now in
    let at = g.L.LedgerOut.text c.loop.ledger in
    let new = g.L.LedgerOut.text c.serve_once.new.ledger in
    record {
      answered = one_by_one c.args.node.now.node c.loop.node.node c.serve_once.new.node.node old at new c.loop.invariant.answered c.in_ok-serve_once.ensures.served;
      takes = λ place bytes count h. c.loop.invariant.takes place bytes count (c.serve_once.ensures.takes place bytes count h);
      listens = listens_on On (g.K.Connections.takes c.args.connections.now) (g.K.Connections.takes c.loop.connections) (served c.args.node.now old [])
          (served c.loop.node at c.loop.peers) (served c.serve_once.new.node new c.serve_once.new.peers) None
          (traffic (g.K.Connections.arrived c.args.connections.now) (g.K.Connections.sent c.args.connections.now))
          (traffic (g.K.Connections.arrived c.loop.connections) (g.K.Connections.sent c.loop.connections))
          (traffic (g.K.Connections.arrived c.serve_once.new.connections) (g.K.Connections.sent c.serve_once.new.connections))
          c.loop.invariant.listens c.loop.invariant.takes c.in_ok-serve_once.ensures.listens;
    }

pub returns-then-is_over-clause-settled : goal.returns-then-is_over-clause-settled
returns-then-is_over-clause-settled g c = subst IsSettled c.node.ensures (c.is_settled.ensures.settled c.if-is_settled.true)

pub returns-then-is_over-clause-listens : goal.returns-then-is_over-clause-listens
returns-then-is_over-clause-listens g c = (served c.loop.node (g.L.LedgerOut.text c.loop.ledger) c.loop.peers, refl, refl, c.loop.invariant.listens)

pub returns-then-is_over-clause-served : goal.returns-then-is_over-clause-served
returns-then-is_over-clause-served g c = c.loop.invariant.answered

pub returns-clause-early : goal.returns-clause-early
returns-clause-early g c = (served c.loop.node (g.L.LedgerOut.text c.loop.ledger) c.loop.peers, None, c.loop.invariant.listens)

pub returns-in_err-piece-clause-early : goal.returns-in_err-piece-clause-early
returns-in_err-piece-clause-early g c =
    let fault = err_from_is_err_and c.from_residual.result c.from_residual.ensures.1 in
    let text = g.L.LedgerOut.text c.args.ledger.now in
    let before = traffic (g.K.Connections.arrived c.args.connections.now) (g.K.Connections.sent c.args.connections.now) in
    rw fault.1
    (served c.args.node.now text [], None, listens_none On (g.K.Connections.takes c.args.connections.now) (served c.args.node.now text []) before)

pub returns-in_err-serve_once-clause-early : goal.returns-in_err-serve_once-clause-early
returns-in_err-serve_once-clause-early g c =
    let fault = err_from_is_err_and c.from_residual-in_err-serve_once.result c.from_residual-in_err-serve_once.ensures.1 in
    let (new, last, listens) = c.in_err-serve_once.ensures.early in
    rw fault.1 (
      new,
      last,
      listens_on On (g.K.Connections.takes c.args.connections.now) (g.K.Connections.takes c.loop.connections) (served c.args.node.now (g.L.LedgerOut.text c.args.ledger.now) [])
          (served c.loop.node (g.L.LedgerOut.text c.loop.ledger) c.loop.peers) new last
          (traffic (g.K.Connections.arrived c.args.connections.now) (g.K.Connections.sent c.args.connections.now))
          (traffic (g.K.Connections.arrived c.loop.connections) (g.K.Connections.sent c.loop.connections))
          (traffic (g.K.Connections.arrived c.serve_once.new.connections) (g.K.Connections.sent c.serve_once.new.connections))
          c.loop.invariant.listens c.loop.invariant.takes listens,
    )
