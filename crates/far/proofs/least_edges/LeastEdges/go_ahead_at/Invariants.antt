use Rattle.std.proofs.Common.{◌≡◌}
use Rattle.far.proofs.least_edges.LeastEdges.go_ahead_at.Given as goal

abbrev pub invariant-loop-q : goal.invariant-loop-q
invariant-loop-q l = l.self ≡ l.fn.self
