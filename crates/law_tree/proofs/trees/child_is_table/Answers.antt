use Rattle.law_tree.proofs.TableLaws.{child_alike, tree_alike, tree_table_child, tree_in_order}
use Rattle.law_tree.proofs.trees.child_is_table.Goals as goal

-- along the tree
pub returns-clause-below : goal.returns-clause-below
returns-clause-below c = tree_table_child

pub returns-clause-child : goal.returns-clause-child
returns-clause-child c = λ p t i x. let alike = child_alike p t i x in (alike.is_table, alike.states)

pub returns-clause-tree : goal.returns-clause-tree
returns-clause-tree c = λ p t i x. let alike = tree_alike p t i x in (alike.is_table, alike.states)

pub returns-clause-order : goal.returns-clause-order
returns-clause-order c = tree_in_order
