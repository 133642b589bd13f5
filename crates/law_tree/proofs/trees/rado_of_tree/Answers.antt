use Rattle.law_turing.specs.Terms.{HaltsAt}
use Rattle.law_tree.specs.Tree.{Scores}
use Rattle.law_tree.proofs.Extensions.{steps_worth, score_worth}
use Rattle.law_tree.proofs.TreeLaws.{greatest_of_all, rado_is_greatest}
use Rattle.law_tree.proofs.trees.rado_of_tree.Goals as goal

-- for the number of steps, and for the score
pub returns-clause-steps : goal.returns-clause-steps
returns-clause-steps c = λ n s some decided.
    let all = greatest_of_all HaltsAt steps_worth n s some decided in
    let rado = rado_is_greatest n s in
    (λ g. rado.0 (all.0 g), λ r. all.1 (rado.1 r))

pub returns-clause-score : goal.returns-clause-score
returns-clause-score c = greatest_of_all Scores score_worth
