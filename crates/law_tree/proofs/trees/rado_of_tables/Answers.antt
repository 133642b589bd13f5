use Rattle.law_turing.specs.Terms.{HaltsAt}
use Rattle.law_tree.specs.Tree.{Scores}
use Rattle.law_tree.proofs.TreeLaws.{rado_is_greatest}
use Rattle.law_tree.proofs.TableLaws.{empty_is_table, empty_table_in_order, best_of_empty_table}
use Rattle.law_tree.proofs.trees.rado_of_tables.Goals as goal

-- for the number of steps, and for the score
pub returns-clause-table : goal.returns-clause-table
returns-clause-table c = λ n some limit. (empty_is_table n some limit, empty_table_in_order n some limit)

pub returns-clause-steps : goal.returns-clause-steps
returns-clause-steps c = λ n s some limit.
    let all = best_of_empty_table HaltsAt n s some limit in
    let rado = rado_is_greatest n s in
    (λ x. rado.0 (all.0 x), λ r. all.1 (rado.1 r))

pub returns-clause-score : goal.returns-clause-score
returns-clause-score c = best_of_empty_table Scores
