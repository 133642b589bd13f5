use Rattle.std.proofs.Common.{◌≡◌, []}
use Rattle.kind_named.specs.inside.Loop.{VisitsOften}
use Rattle.kind_named.proofs.glider.visit_often.Given as goal

abbrev pub invariant-loop : goal.invariant-loop
invariant-loop g = record { right : g.right.items ≡ []; visiting : VisitsOften g.counter g.fn.ropes g.ropes g.fn.left.items g.left.items }
