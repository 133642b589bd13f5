use Rattle.std.proofs.Common.{◌≡◌}
use Rattle.far.proofs.least_edges.LeastEdges.grow_once.Given as goal

abbrev pub invariant-loop-pair : goal.invariant-loop-pair
invariant-loop-pair l = l.self ≡ l.fn.self
