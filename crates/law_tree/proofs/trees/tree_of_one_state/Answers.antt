use Rattle.std.proofs.Common.{arith}
use Rattle.law_turing.specs.Terms.{HaltsAt}
use Rattle.law_tree.proofs.Extensions.{steps_worth}
use Rattle.law_turing.proofs.Cycles.{rado_of_one}
use Rattle.law_tree.proofs.TreeLaws.{greatest_of_all, rado_is_greatest, one_state_decided}
use Rattle.law_tree.proofs.trees.tree_of_one_state.Goals as goal

-- from the empty machine and its children
pub returns-clause-decided : goal.returns-clause-decided
returns-clause-decided c = one_state_decided

pub returns-clause-greatest : goal.returns-clause-greatest
returns-clause-greatest c = (greatest_of_all HaltsAt steps_worth 1 1 (omega arith) one_state_decided).1 ((rado_is_greatest 1 1).1 rado_of_one)
