use Rattle.kind_named.specs.inside.Tokens.{RopesAdded}
use Rattle.kind_named.specs.inside.Sections.{TakesOff}
use Rattle.kind_named.proofs.gather.gather.Given as goal

abbrev pub invariant-loop : goal.invariant-loop
invariant-loop g = record { old : RopesAdded g.fn.ropes g.ropes; gathers : TakesOff (λ l. l) g.fn.ropes g.ropes g.fn.left.items g.left.items g.fn.taken.items g.taken.items }
