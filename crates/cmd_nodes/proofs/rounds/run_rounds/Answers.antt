use Rattle.std.proofs.Common.{◌+◌}
use Rattle.cmd_nodes.specs.Served.{TakesRound, TakesRounds}
use Rattle.cmd_nodes.proofs.Coordinators.{one_by_one}
use Rattle.cmd_nodes.proofs.NodeRounds.{each_more, round_more}
use Rattle.cmd_nodes.proofs.rounds.run_rounds.Goals as goal

pub loop-before-preserved : goal.loop-before-preserved
loop-before-preserved g c = record {
  served =
      one_by_one c.args.coordinator.now c.loop-before.coordinator c.run_round.new.coordinator (g.L.LedgerOut.text c.args.ledger.now) (g.L.LedgerOut.text c.loop-before.ledger)
      (g.L.LedgerOut.text c.run_round.new.ledger) c.loop-before.invariant.served c.in_ok-run_round.ensures.served;
  taken =
      each_more (TakesRounds g.N.Node.answers c.loop-before.before) (TakesRound g.N.Node.answers (c.loop-before.before + 1)) (TakesRounds g.N.Node.answers (c.loop-before.before + 1)) c.args.stations.now.items
      c.loop-before.stations.items c.run_round.new.stations.items (round_more g.N.Node.answers c.loop-before.before) c.loop-before.invariant.taken c.in_ok-run_round.ensures.taken;
}
