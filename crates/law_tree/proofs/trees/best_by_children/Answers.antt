use Rattle.law_turing.specs.Terms.{HaltsAt}
use Rattle.law_tree.specs.Tree.{Scores}
use Rattle.law_tree.proofs.Extensions.{steps_worth, score_worth, children_best}
use Rattle.law_tree.proofs.trees.best_by_children.Goals as goal

-- for the number of steps, and for the score
pub returns-clause-steps : goal.returns-clause-steps
returns-clause-steps c = λ n u k q s r m b i o h bests. children_best HaltsAt steps_worth n u m k q r k b i o h h.halts bests s

pub returns-clause-score : goal.returns-clause-score
returns-clause-score c = λ n u k q x s r m b i o h v bests. children_best Scores score_worth n u m k q r x b i o h (k, v) bests s
