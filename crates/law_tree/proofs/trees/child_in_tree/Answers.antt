use Rattle.law_tree.proofs.TreeLaws.{tree_child}
use Rattle.law_tree.proofs.trees.child_in_tree.Goals as goal

-- along the tree
pub returns : goal.returns
returns c = tree_child
