use Rattle.law_turing.specs.Terms.{HaltsAt}
use Rattle.law_tree.specs.Tree.{Scores, greatest_of, child_entries}
use Rattle.law_tree.proofs.Extensions.{steps_worth, score_worth, children_best}
use Rattle.law_tree.proofs.ChildEntries.{greatest_listed}
use Rattle.law_tree.proofs.trees.best_by_list.Goals as goal

-- along the list
pub returns-clause-steps : goal.returns-clause-steps
returns-clause-steps c = λ n u k q r m b i o h bests. (children_best HaltsAt steps_worth n u m k q r k b i o h h.halts bests (greatest_of k b (child_entries n u m))).1 (greatest_listed n u m k b i)

pub returns-clause-score : goal.returns-clause-score
returns-clause-score c = λ n u k q x r m b i o h v bests. (children_best Scores score_worth n u m k q r x b i o h (k, v) bests (greatest_of x b (child_entries n u m))).1 (greatest_listed n u m x b i)
