use Rattle.leases.proofs.FreeLaws.{if_few}
use Rattle.leases.proofs.children.children_of.Goals as goal

pub returns-clause-most : goal.returns-clause-most
returns-clause-most c = if_few c.args.t.now c.children.result c.children_listed.ensures.members c.states.ensures.table c.children.ensures.all
