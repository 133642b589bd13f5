use Rattle.std.proofs.Common.{vec_len}
use Rattle.kind_named.specs.inside.Sections.{Rebuilt}
use Rattle.kind_named.proofs.rebuild.rebuild.Given as goal

abbrev pub invariant-loop-section : goal.invariant-loop-section
invariant-loop-section g = Rebuilt g.fn.given g.fn.inside g.a g.n g.fn.ropes g.ropes g.fn.left.items g.left.items g.fn.taken.items g.taken.items

abbrev pub decreases-loop-section : goal.decreases-loop-section
decreases-loop-section g = vec_len g.taken
