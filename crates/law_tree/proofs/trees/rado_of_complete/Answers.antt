use Rattle.machine_text.specs.Terms.{empty_table}
use Rattle.std.proofs.Common.{Some}
use Rattle.law_turing.specs.Terms.{HaltsAt}
use Rattle.law_tree.specs.Tree.{Scores}
use Rattle.law_tree.proofs.Extensions.{steps_worth, score_worth}
use Rattle.law_tree.proofs.TreeLaws.{rado_is_greatest}
use Rattle.law_tree.proofs.TableLaws.{empty_is_table, empty_table_in_order, best_of_empty_table, stops_marked, closed_best, complete_closed}
use Rattle.law_tree.proofs.trees.rado_of_complete.Goals as goal

-- the root is closed
pub returns-clause-steps : goal.returns-clause-steps
returns-clause-steps c = λ n s marks some limit true_marks complete.
    let root = empty_table n in
    let best = closed_best root marks true_marks HaltsAt steps_worth (λ t k. k) (stops_marked root marks true_marks) root 1 (empty_is_table n some limit) (empty_table_in_order n some limit) (complete_closed root marks true_marks complete) (Some s) in
    let all = best_of_empty_table HaltsAt n s some limit in
    let rado = rado_is_greatest n s in
    (λ x. rado.0 (all.0 (best.1 x)), λ r. best.0 (all.1 (rado.1 r)))

pub returns-clause-score : goal.returns-clause-score
returns-clause-score c = λ n s marks scores some limit true_marks recorded complete.
    let root = empty_table n in
    let best = closed_best root marks true_marks Scores score_worth (λ t k. scores t) (λ t k is. (k, recorded t k is)) root 1 (empty_is_table n some limit) (empty_table_in_order n some limit) (complete_closed root marks true_marks complete) (Some s) in
    let all = best_of_empty_table Scores n s some limit in
    (λ x. all.0 (best.1 x), λ r. best.0 (all.1 r))
