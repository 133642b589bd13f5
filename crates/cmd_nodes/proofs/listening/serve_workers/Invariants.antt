use Rattle.std.proofs.Common.{[], None}
use Rattle.lease_core.specs.Terms.{On}
use Rattle.peers.specs.Terms.{TakesAsBefore, served}
use Rattle.cmd_nodes.specs.Served.{Listens, traffic}
use Rattle.cmd_nodes.specs.inside.{IsServed}
use Rattle.cmd_nodes.proofs.listening.serve_workers.Given as goal

abbrev pub invariant-loop : goal.invariant-loop
invariant-loop g l = record {
  answered : IsServed l.fn.node.node l.node.node (g.L.LedgerOut.text l.fn.ledger) (g.L.LedgerOut.text l.ledger);
  takes : TakesAsBefore (g.K.Connections.takes l.fn.connections) (g.K.Connections.takes l.connections);
  listens :
      Listens On (g.K.Connections.takes l.fn.connections) (served l.fn.node (g.L.LedgerOut.text l.fn.ledger) [])
      (served l.node (g.L.LedgerOut.text l.ledger) l.peers) None
      (traffic (g.K.Connections.arrived l.fn.connections) (g.K.Connections.sent l.fn.connections))
      (traffic (g.K.Connections.arrived l.connections) (g.K.Connections.sent l.connections));
}
