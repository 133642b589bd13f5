use Rattle.law_tree.proofs.TreeLaws.{child_machine, child_extends, child_in_order}
use Rattle.law_tree.proofs.trees.child_keeps_order.Goals as goal

-- what a filled pair adds
pub returns-clause-machine : goal.returns-clause-machine
returns-clause-machine c = child_machine

pub returns-clause-extends : goal.returns-clause-extends
returns-clause-extends c = child_extends

pub returns-clause-order : goal.returns-clause-order
returns-clause-order c = child_in_order
