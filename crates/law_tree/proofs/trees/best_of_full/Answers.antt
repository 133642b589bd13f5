use Rattle.law_turing.specs.Terms.{HaltsAt}
use Rattle.law_tree.specs.Tree.{Scores}
use Rattle.law_tree.proofs.Extensions.{steps_worth, score_worth, full_never, full_best}
use Rattle.law_tree.proofs.trees.best_of_full.Goals as goal

-- a full machine never halts
pub returns-clause-never : goal.returns-clause-never
returns-clause-never c = full_never

pub returns-clause-steps : goal.returns-clause-steps
returns-clause-steps c = full_best HaltsAt steps_worth

pub returns-clause-score : goal.returns-clause-score
returns-clause-score c = full_best Scores score_worth
