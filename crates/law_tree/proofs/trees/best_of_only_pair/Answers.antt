use Rattle.law_turing.specs.Terms.{symbol_read, HaltsAt}
use Rattle.law_tree.specs.Tree.{Scores}
use Rattle.law_tree.proofs.Extensions.{steps_worth, score_worth, stops_on, only_best}
use Rattle.law_tree.proofs.trees.best_of_only_pair.Goals as goal

-- it halts on a pair
pub returns-clause-steps : goal.returns-clause-steps
returns-clause-steps c = λ n k m i one h. only_best HaltsAt steps_worth n m k h.at.state (symbol_read h.at.tape) k i one (stops_on m k h) h

pub returns-clause-score : goal.returns-clause-score
returns-clause-score c = λ n k s m i one v. let h = v.halts in only_best Scores score_worth n m k h.at.state (symbol_read h.at.tape) s i one (stops_on m k h) (k, v)
