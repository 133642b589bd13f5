use Rattle.std.proofs.Common.{◌≡◌}
use Rattle.far.proofs.least_edges.LeastEdges.grow.Given as goal

abbrev pub invariant-loop-pass : goal.invariant-loop-pass
invariant-loop-pass l = l.self ≡ l.fn.self
