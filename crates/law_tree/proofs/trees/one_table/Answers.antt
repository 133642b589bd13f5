use Rattle.law_tree.proofs.TableLaws.{same_table}
use Rattle.law_tree.proofs.trees.one_table.Goals as goal

-- each place of the codes is that of a pair
pub returns : goal.returns
returns c = same_table
