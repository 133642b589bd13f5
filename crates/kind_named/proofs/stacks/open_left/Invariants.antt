use Rattle.kind_named.specs.inside.Tokens.{RopesAdded, SameLeft}
use Rattle.kind_named.proofs.stacks.open_left.Given as goal

abbrev pub invariant-loop : goal.invariant-loop
invariant-loop l = record { old : RopesAdded l.fn.ropes l.ropes; same : SameLeft l.fn.ropes l.ropes l.fn.left.items l.left.items }
