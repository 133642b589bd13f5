use Rattle.law_turing.specs.Terms.{HaltsAt}
use Rattle.law_tree.specs.Tree.{Scores}
use Rattle.law_tree.proofs.Extensions.{steps_worth, score_worth}
use Rattle.law_tree.proofs.TableLaws.{stops_marked, closed_best}
use Rattle.law_tree.proofs.trees.best_of_closed.Goals as goal

-- for the number of steps, and for the score
pub returns-clause-steps : goal.returns-clause-steps
returns-clause-steps c = λ root p u marks b true_marks i o closed.
    closed_best root marks true_marks HaltsAt steps_worth (λ t k. k) (stops_marked root marks true_marks) p u i o closed b

pub returns-clause-score : goal.returns-clause-score
returns-clause-score c = λ root p u marks scores b true_marks recorded i o closed.
    closed_best root marks true_marks Scores score_worth (λ t k. scores t) (λ t k is. (k, recorded t k is)) p u i o closed b
