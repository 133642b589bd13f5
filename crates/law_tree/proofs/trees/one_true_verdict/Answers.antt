use Rattle.law_tree.proofs.TableLaws.{one_mark}
use Rattle.law_tree.proofs.trees.one_true_verdict.Goals as goal

-- a count is one number
pub returns : goal.returns
returns c = one_mark
