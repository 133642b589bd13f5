use Rattle.std.proofs.Common.{◌≡◌, ◌≤◌, ◌-◌}
use Rattle.cmd_nodes.specs.Moving.{HasRead}
use Rattle.cmd_nodes.proofs.couriers.read_piece.Given as goal

-- as many have come as aren't left
abbrev pub invariant-reads : goal.invariant-reads
invariant-reads g l = record {
  within : l.left ≤ l.count;
  has_read : HasRead (l.count - l.left) (g.R.Read.remaining l.fn.far) l.fn.to.waiting (g.R.Read.remaining l.far) l.to.waiting;
  inbox : l.to ≡ record l.fn.to { waiting = l.to.waiting };
}

abbrev pub decreases-reads : goal.decreases-reads
decreases-reads g l = l.left
