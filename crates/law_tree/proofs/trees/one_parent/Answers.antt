use Rattle.law_tree.proofs.TreeLaws.{one_parent}
use Rattle.law_tree.proofs.trees.one_parent.Goals as goal

-- by the pair on which the root halts, and so on below
pub returns : goal.returns
returns c = one_parent
