use Rattle.std.proofs.Common.{◌≡◌, ◌≤◌, ◌-◌, drop, length, None}
use Rattle.std.specs.Prelude.{IfSome}
use Rattle.wire.specs.Terms.{Handed, scene}
use Rattle.peers.specs.Guard.{returned}
use Rattle.peers.proofs.guard.Guard.give_back_all.Given as goal

-- the leases that are left are those from a place on
abbrev pub invariant-askers : goal.invariant-askers
invariant-askers g l = record {
  within : l.place ≤ length l.fn.self.askers;
  handed :
      Handed g.N.Node.answers (scene l.fn.node (g.W.LedgerOut.text l.fn.ledger) None) (returned l.fn.self.askers)
      (returned (drop l.place l.fn.self.askers)) (scene l.node (g.W.LedgerOut.text l.ledger) None);
  step : IfSome (g.W.LedgerOut.text l.fn.ledger) (g.N.Node.in_step l.fn.node) → IfSome (g.W.LedgerOut.text l.ledger) (g.N.Node.in_step l.node);
  same : g.W.LedgerOut.failures l.ledger ≡ g.W.LedgerOut.failures l.fn.ledger;
}

abbrev pub decreases-askers : goal.decreases-askers
decreases-askers g l = length l.fn.self.askers - l.place
