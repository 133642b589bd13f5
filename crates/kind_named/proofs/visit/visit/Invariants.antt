use Rattle.kind_named.specs.declared.tokens.Heading.TheVariants.{Left}
use Rattle.kind_named.specs.inside.Tokens.{Leads}
use Rattle.kind_named.proofs.visit.visit.Given as goal

abbrev pub invariant-loop : goal.invariant-loop
invariant-loop l =
    Leads l.beyond (record { ropes = l.fn.ropes; lefts = l.fn.left.items; rights = l.fn.right.items; heading = Left })
    (record { ropes = l.ropes; lefts = l.left.items; rights = l.right.items; heading = l.heading })
