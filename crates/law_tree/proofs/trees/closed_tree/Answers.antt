use Rattle.law_tree.proofs.TableLaws.{closed_below, closed_decided, complete_closed}
use Rattle.law_tree.proofs.trees.closed_tree.Goals as goal

-- a child of a closed table is closed
pub returns-clause-tree : goal.returns-clause-tree
returns-clause-tree c = λ root p t marks true_marks closed below. closed_below root marks true_marks p t closed below

pub returns-clause-decided : goal.returns-clause-decided
returns-clause-decided c = λ root p marks true_marks closed. closed_decided root marks true_marks p closed

pub returns-clause-complete : goal.returns-clause-complete
returns-clause-complete c = λ root t marks true_marks complete below. closed_below root marks true_marks root t (complete_closed root marks true_marks complete) below
