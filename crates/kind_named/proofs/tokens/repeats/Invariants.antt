use Rattle.std.proofs.Common.{◌≡◌, []}
use Rattle.kind_named.specs.inside.Loop.{OnTheWay}
use Rattle.kind_named.proofs.tokens.repeats.Given as goal

abbrev pub invariant-loop : goal.invariant-loop
invariant-loop g = record { right : g.right.items ≡ []; passing : OnTheWay g.tokens g.ropes g.left.items }
