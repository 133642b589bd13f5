use Rattle.std.proofs.Common.{◌≡◌}
use Rattle.far.proofs.least_edges.LeastEdges.grow_at.Given as goal

abbrev pub invariant-loop-number : goal.invariant-loop-number
invariant-loop-number l = l.self ≡ l.fn.self
