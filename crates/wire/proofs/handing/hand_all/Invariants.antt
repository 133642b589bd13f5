use Rattle.std.proofs.Common.{◌≡◌, length}
use Rattle.std.specs.Prelude.{IfSome}
use Rattle.wire.specs.Fulfilled.{kept_text, scene, events_of}
use Rattle.wire.specs.inside.{HasGathered}
use Rattle.wire.proofs.handing.hand_all.Given as goal

-- the answers to the lines that were handed over are fulfilled, or gathered
abbrev pub invariant-lines : goal.invariant-lines
invariant-lines g l = record {
  gathers :
      HasGathered g.N.Node.answers (scene l.fn.node (g.W.LedgerOut.text l.fn.ledger) (g.L.Link.sent l.fn.link)) (events_of l.fn.lines.waiting)
      (events_of l.lines.waiting) (g.W.LedgerOut.text l.ledger) (g.L.Link.sent l.link) l.gathered l.node;
  rest : l.lines.rest ≡ l.fn.lines.rest;
  step : IfSome (g.W.LedgerOut.text l.fn.ledger) (g.N.Node.in_step l.fn.node)
      → IfSome (kept_text l.gathered (g.W.LedgerOut.text l.ledger)) (g.N.Node.in_step l.node);
  link_count : g.L.Link.failures l.link ≡ g.L.Link.failures l.fn.link;
  ledger_count : g.W.LedgerOut.failures l.ledger ≡ g.W.LedgerOut.failures l.fn.ledger;
  waiting : g.L.Link.waiting l.link ≡ g.L.Link.waiting l.fn.link;
}

abbrev pub decreases-lines : goal.decreases-lines
decreases-lines g l = length l.lines.waiting
