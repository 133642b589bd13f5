use Rattle.std.proofs.Common.{◌≡◌, List, length}
use Rattle.std.specs.Prelude.{Result}
use Rattle.text.specs.Terms.{BoundedLine}
use Rattle.wire.specs.declared.handing.TurnFault.{TurnFault}
use Rattle.peers.specs.Crew.{AreInStep, Hall, hall, HearsAll}
use Rattle.peers.proofs.pool.Pool.hear_all.Given as goal

-- whatever becomes of the lines that are left becomes of all
abbrev pub invariant-lines : goal.invariant-lines
invariant-lines g l = record {
  hears :
      (result : Result (Unit {0}) TurnFault) (left : List BoundedLine) (new : Hall g.row.N.Denot g.row.W.Denot)
      → HearsAll g.N.Node.answers g.N.Node.is_stopped g.W.LedgerOut.text l.self-inside.lines.waiting result left (hall l.self-inside.crew (g.L.Link.sent l.link)) new
      → HearsAll g.N.Node.answers g.N.Node.is_stopped g.W.LedgerOut.text l.fn.self.lines.waiting result left (hall l.fn.self.crew (g.L.Link.sent l.fn.link)) new;
  rest : l.self-inside.lines.rest ≡ l.fn.self.lines.rest;
  step : AreInStep g.N.Node.in_step g.W.LedgerOut.text l.fn.self.crew.cores → AreInStep g.N.Node.in_step g.W.LedgerOut.text l.self-inside.crew.cores;
  waiting : g.L.Link.waiting l.link ≡ g.L.Link.waiting l.fn.link;
}

abbrev pub decreases-lines : goal.decreases-lines
decreases-lines g l = length l.self-inside.lines.waiting
