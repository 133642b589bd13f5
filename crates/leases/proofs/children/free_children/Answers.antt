use Rattle.leases.proofs.children.free_children.Goals as goal

pub returns-in-Some-clause-all : goal.returns-in-Some-clause-all
returns-in-Some-clause-all c = λ q child halting. c.free_all.ensures.all q ((c.in-Some.ensures.all.exact q).1 child)
