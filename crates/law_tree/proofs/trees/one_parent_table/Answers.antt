use Rattle.law_tree.proofs.TableLaws.{one_table_parent}
use Rattle.law_tree.proofs.trees.one_parent_table.Goals as goal

-- by their maps
pub returns : goal.returns
returns c = one_table_parent
