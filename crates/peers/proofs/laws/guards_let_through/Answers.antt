use Rattle.peers.proofs.GuardLaws.{own_leases, passes_on, stay_few}
use Rattle.peers.proofs.laws.guards_let_through.Goals as goal

pub returns-clause-lines : goal.returns-clause-lines
returns-clause-lines c = λ takes_holdouts guard new replies handed guards. passes_on takes_holdouts guard new replies handed guards

pub returns-clause-leases : goal.returns-clause-leases
returns-clause-leases c = λ takes_holdouts guard new replies handed frame guards is. own_leases takes_holdouts guard new replies handed frame guards is

pub returns-clause-few : goal.returns-clause-few
returns-clause-few c = λ takes_holdouts guard new replies handed guards few. stay_few takes_holdouts guard new replies handed guards few
