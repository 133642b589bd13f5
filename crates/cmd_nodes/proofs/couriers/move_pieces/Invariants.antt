use Rattle.std.proofs.Common.{◌≡◌, ℕ, List, ◌++◌, length}
use Rattle.cmd_nodes.specs.Moving.{HasMoved, way}
use Rattle.cmd_nodes.proofs.couriers.move_pieces.Given as goal

-- what is left stands behind what was moved
abbrev pub invariant-pieces : goal.invariant-pieces
invariant-pieces g l = record {
  moved :
      (done : List ℕ) × (l.sent ≡ done ++ l.left) × HasMoved done (way (g.W.Write.contents l.fn.near) (g.R.Read.remaining l.fn.far) l.fn.to.waiting)
      (way (g.W.Write.contents l.near) (g.R.Read.remaining l.far) l.to.waiting);
  inbox : l.to ≡ record l.fn.to { waiting = l.to.waiting };
}

abbrev pub decreases-pieces : goal.decreases-pieces
decreases-pieces g l = length l.left
