use Rattle.law_tree.proofs.Used.{one_used, used_bound, used_from_test, test_from_used, used_number, order_test, order_from_test}
use Rattle.law_tree.proofs.trees.used_states.Goals as goal

-- the test, and the number
pub returns-clause-test : goal.returns-clause-test
returns-clause-test c = λ n q m i. (used_from_test n m q, test_from_used n m q i)

pub returns-clause-number : goal.returns-clause-number
returns-clause-number c = λ n u m. used_number n u m

pub returns-clause-one : goal.returns-clause-one
returns-clause-one c = one_used

pub returns-clause-order : goal.returns-clause-order
returns-clause-order c = λ n u m i. (λ o. (used_bound n u m i o, λ q _. order_test n u m i o q), λ same. order_from_test n u m i same.0 same.1)
