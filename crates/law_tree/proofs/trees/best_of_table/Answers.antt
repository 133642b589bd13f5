use Rattle.law_turing.specs.Terms.{HaltsAt}
use Rattle.law_tree.specs.Tree.{Scores}
use Rattle.law_tree.proofs.Extensions.{steps_worth, score_worth}
use Rattle.law_tree.proofs.TableLaws.{table_best}
use Rattle.law_tree.proofs.trees.best_of_table.Goals as goal

-- for the number of steps, and for the score
pub returns-clause-steps : goal.returns-clause-steps
returns-clause-steps c = λ p u b i o decided. table_best HaltsAt steps_worth p u i o decided b

pub returns-clause-score : goal.returns-clause-score
returns-clause-score c = λ p u b i o decided. table_best Scores score_worth p u i o decided b
