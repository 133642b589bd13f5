use Rattle.cmd_nodes.specs.Served.{TakesRounds}
use Rattle.cmd_nodes.specs.inside.{EachBecomes, IsServed}
use Rattle.cmd_nodes.proofs.rounds.run_rounds.Given as goal

abbrev pub invariant-loop-before : goal.invariant-loop-before
invariant-loop-before g l = record {
  served : IsServed l.fn.coordinator l.coordinator (g.L.LedgerOut.text l.fn.ledger) (g.L.LedgerOut.text l.ledger);
  taken : EachBecomes (TakesRounds g.N.Node.answers l.before) l.fn.stations.items l.stations.items;
}
