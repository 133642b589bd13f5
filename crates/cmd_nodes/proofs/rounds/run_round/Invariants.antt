use Rattle.std.proofs.Common.{◌≡◌, ◌<◌, ◌≤◌, ℕ, length, get_or}
use Rattle.cmd_nodes.specs.Served.{TakesRound}
use Rattle.cmd_nodes.specs.inside.{IsServed}
use Rattle.cmd_nodes.proofs.rounds.run_round.Given as goal

-- the workers before this one have taken the round, and the others are as they were
abbrev pub invariant-loop-station : goal.invariant-loop-station
invariant-loop-station g l = record {
  served : IsServed l.fn.coordinator l.coordinator (g.L.LedgerOut.text l.fn.ledger) (g.L.LedgerOut.text l.ledger);
  many : length l.station-items ≡ length l.fn.stations.items;
  taken : (k : ℕ) (d : _) → k < l.station-index → TakesRound g.N.Node.answers l.round (get_or l.fn.stations.items k d).worker (get_or l.station-items k d).worker;
  left : (k : ℕ) (d : _) → l.station-index ≤ k → get_or l.station-items k d ≡ get_or l.fn.stations.items k d;
}
