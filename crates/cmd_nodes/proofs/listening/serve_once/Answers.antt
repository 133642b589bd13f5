use Rattle.lease_core.specs.Terms.{On}
use Rattle.peers.specs.Terms.{served}
use Rattle.cmd_nodes.specs.Served.{traffic}
use Rattle.cmd_nodes.proofs.NodeRounds.{rounds_became}
use Rattle.cmd_nodes.proofs.Traffic.{listens_fault, listens_one}
use Rattle.cmd_nodes.proofs.listening.serve_once.Goals as goal

pub returns-in-Ok-clause-served : goal.returns-in-Ok-clause-served
returns-in-Ok-clause-served g c =
    let takes = g.K.Connections.takes c.args.connections.now in
    let old = served c.args.node.now (g.L.LedgerOut.text c.args.ledger.now) c.args.peers.now in
    let new = served c.serve.new.node (g.L.LedgerOut.text c.serve.new.ledger) c.serve.new.peers in
    let before = traffic (g.K.Connections.arrived c.args.connections.now) (g.K.Connections.sent c.args.connections.now) in
    let after = traffic (g.K.Connections.arrived c.serve.new.connections) (g.K.Connections.sent c.serve.new.connections) in
    let (exchange, came, one) = c.in-Ok.ensures.ok in
    let listens = listens_one On takes old new exchange before after came one in
    record { became = rounds_became On takes old listens.exchanges new listens.serves.rounds; step = c.in-Ok.ensures.step (λ e. cc) }

pub returns-in-Ok-clause-listens : goal.returns-in-Ok-clause-listens
returns-in-Ok-clause-listens g c =
    let (exchange, came, one) = c.in-Ok.ensures.ok in
    listens_one On (g.K.Connections.takes c.args.connections.now) (served c.args.node.now (g.L.LedgerOut.text c.args.ledger.now) c.args.peers.now)
    (served c.serve.new.node (g.L.LedgerOut.text c.serve.new.ledger) c.serve.new.peers) exchange
    (traffic (g.K.Connections.arrived c.args.connections.now) (g.K.Connections.sent c.args.connections.now))
    (traffic (g.K.Connections.arrived c.serve.new.connections) (g.K.Connections.sent c.serve.new.connections)) came one

pub returns-in-Err-clause-early : goal.returns-in-Err-clause-early
returns-in-Err-clause-early g c =
    let (came, comes, fails) = c.in-Err.ensures.err in
    listens_fault On (g.K.Connections.takes c.args.connections.now) (served c.args.node.now (g.L.LedgerOut.text c.args.ledger.now) c.args.peers.now) came
    (traffic (g.K.Connections.arrived c.args.connections.now) (g.K.Connections.sent c.args.connections.now))
    (traffic (g.K.Connections.arrived c.serve.new.connections) (g.K.Connections.sent c.serve.new.connections)) comes c.in-Err.ensures.unsent
