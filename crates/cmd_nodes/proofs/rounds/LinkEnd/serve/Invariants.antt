use Rattle.cmd_nodes.specs.Served.{Becomes}
use Rattle.cmd_nodes.specs.inside.{KeepsStep}
use Rattle.cmd_nodes.proofs.rounds.LinkEnd.serve.Given as goal

abbrev pub invariant-loop : goal.invariant-loop
invariant-loop g l = record {
  became : Becomes g.N.Node.answers l.fn.node l.node;
  step : KeepsStep g.N.Node.in_step l.fn.node l.node (g.L.LedgerOut.text l.fn.ledger) (g.L.LedgerOut.text l.ledger);
}
