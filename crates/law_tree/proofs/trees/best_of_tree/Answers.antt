use Rattle.law_turing.specs.Terms.{HaltsAt}
use Rattle.law_tree.specs.Tree.{Scores}
use Rattle.law_tree.proofs.Extensions.{steps_worth, score_worth}
use Rattle.law_tree.proofs.TreeLaws.{best_is_greatest}
use Rattle.law_tree.proofs.trees.best_of_tree.Goals as goal

-- for the number of steps, and for the score
pub returns-clause-steps : goal.returns-clause-steps
returns-clause-steps c = λ n u m b i o decided. best_is_greatest HaltsAt steps_worth n u m i o decided b

pub returns-clause-score : goal.returns-clause-score
returns-clause-score c = λ n u m b i o decided. best_is_greatest Scores score_worth n u m i o decided b
