use Rattle.std.proofs.Common.{[], ◌∷◌, ◌++◌}
use Rattle.std.specs.Prelude.{IfSome, replicate}
use Rattle.cmd_nodes.specs.Served.{events_of_round}
use Rattle.wire.specs.Terms.{Handed, scene, Ticked, Worked}
use Rattle.cmd_nodes.proofs.rounds.work.Given as goal

-- what is left of the round is still to be handed over
abbrev pub invariant-turns : goal.invariant-turns
invariant-turns g l = record {
  handed :
      Handed g.N.Node.answers (scene l.fn.node (g.W.LedgerOut.text l.fn.ledger) (g.L.Link.sent l.fn.link)) (events_of_round l.fn.round)
      (replicate l.left Worked ++ (Ticked l.fn.round ∷ [])) (scene l.node (g.W.LedgerOut.text l.ledger) (g.L.Link.sent l.link));
  step : IfSome (g.W.LedgerOut.text l.fn.ledger) (g.N.Node.in_step l.fn.node) → IfSome (g.W.LedgerOut.text l.ledger) (g.N.Node.in_step l.node);
}

abbrev pub decreases-turns : goal.decreases-turns
decreases-turns g l = l.left
