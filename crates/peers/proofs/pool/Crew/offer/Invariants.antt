use Rattle.std.proofs.Common.{◌≡◌, ◌<◌, length}
use Rattle.std.specs.Prelude.{Result}
use Rattle.wire.specs.declared.handing.TurnFault.{TurnFault}
use Rattle.peers.specs.Crew.{AreInStep, Hall, hall, Offers}
use Rattle.peers.proofs.pool.Crew.offer.Given as goal

-- whatever becomes of the offers that are left becomes of all
abbrev pub invariant-offers : goal.invariant-offers
invariant-offers g l = record {
  offers :
      (result : Result (Unit {0}) TurnFault) (new : Hall g.row.N.Denot g.row.W.Denot)
      → Offers g.N.Node.answers g.N.Node.is_stopped g.W.LedgerOut.text l.left l.place l.frame result (hall l.self (g.L.Link.sent l.link)) new
      → Offers g.N.Node.answers g.N.Node.is_stopped g.W.LedgerOut.text (length l.fn.self.cores) l.fn.self.latest l.frame result (hall l.fn.self (g.L.Link.sent l.fn.link)) new;
  within : 0 < l.left → l.place < length l.self.cores;
  step : AreInStep g.N.Node.in_step g.W.LedgerOut.text l.fn.self.cores → AreInStep g.N.Node.in_step g.W.LedgerOut.text l.self.cores;
  count : length l.self.cores ≡ length l.fn.self.cores;
  waiting : g.L.Link.waiting l.link ≡ g.L.Link.waiting l.fn.link;
}

abbrev pub decreases-offers : goal.decreases-offers
decreases-offers g l = l.left
