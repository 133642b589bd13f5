use Rattle.std.proofs.Common.{◌≡◌, ◌+◌, length, drop}
use Rattle.kind_named.specs.inside.Tokens.{RopesAdded, EndsWith}
use Rattle.kind_named.proofs.tokens.take_tail.Given as goal

abbrev pub invariant-loop : goal.invariant-loop
invariant-loop g = record {
  at : g.rest + g.counter ≡ length g.tail;
  old : RopesAdded g.fn.ropes g.ropes;
  ends : EndsWith (drop g.rest g.tail) g.fn.ropes g.ropes g.fn.left.items g.left.items;
}
