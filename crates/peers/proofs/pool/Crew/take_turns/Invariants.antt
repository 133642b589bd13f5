use Rattle.std.proofs.Common.{◌≡◌, length}
use Rattle.std.specs.Prelude.{Result}
use Rattle.wire.specs.declared.handing.TurnFault.{TurnFault}
use Rattle.peers.specs.Crew.{AreInStep, Hall, hall, Turns}
use Rattle.peers.proofs.pool.Crew.take_turns.Given as goal

-- whatever becomes of the turns that are left becomes of all
abbrev pub invariant-turns : goal.invariant-turns
invariant-turns g l = record {
  turns :
      (result : Result (Unit {0}) TurnFault) (new : Hall g.row.N.Denot g.row.W.Denot)
      → Turns g.N.Node.answers g.N.Node.is_stopped g.W.LedgerOut.text l.left l.place result (hall l.self (g.L.Link.sent l.link)) new
      → Turns g.N.Node.answers g.N.Node.is_stopped g.W.LedgerOut.text 4096 l.place result (hall l.fn.self (g.L.Link.sent l.fn.link)) new;
  step : AreInStep g.N.Node.in_step g.W.LedgerOut.text l.fn.self.cores → AreInStep g.N.Node.in_step g.W.LedgerOut.text l.self.cores;
  count : length l.self.cores ≡ length l.fn.self.cores;
  waiting : g.L.Link.waiting l.link ≡ g.L.Link.waiting l.fn.link;
}

abbrev pub decreases-turns : goal.decreases-turns
decreases-turns g l = l.left
