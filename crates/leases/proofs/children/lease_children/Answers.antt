use Rattle.leases.proofs.children.lease_children.Goals as goal

pub returns-in-Some-clause-here : goal.returns-in-Some-clause-here
returns-in-Some-clause-here c = λ q child halting is_open. c.lease_all.ensures.here q ((c.in-Some.ensures.all.exact q).1 child) is_open
