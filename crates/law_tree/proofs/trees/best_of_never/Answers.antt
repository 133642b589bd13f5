use Rattle.law_turing.specs.Terms.{HaltsAt}
use Rattle.law_tree.specs.Tree.{Scores}
use Rattle.law_tree.proofs.Extensions.{steps_worth, score_worth, never_best}
use Rattle.law_tree.proofs.trees.best_of_never.Goals as goal

-- for the number of steps, and for the score
pub returns-clause-steps : goal.returns-clause-steps
returns-clause-steps c = never_best HaltsAt steps_worth

pub returns-clause-score : goal.returns-clause-score
returns-clause-score c = never_best Scores score_worth
