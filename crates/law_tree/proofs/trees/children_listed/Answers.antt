use Rattle.law_tree.proofs.ChildTables.{listed_is_child, child_is_listed, children_differ, children_rise}
use Rattle.machine_text.specs.Terms.{entry_of}
use Rattle.law_turing.proofs.RunLaws.{table_machine}
use Rattle.law_tree.proofs.Extensions.{pair_within}
use Rattle.law_tree.proofs.trees.children_listed.Goals as goal

-- the members of the list
pub returns-clause-rising : goal.returns-clause-rising
returns-clause-rising c = λ p u k q s i o h. children_rise p q s i (pair_within p.states (entry_of p) k q s (table_machine p i) h)

pub returns-clause-members : goal.returns-clause-members
returns-clause-members c = λ p t u k q s i o h. (listed_is_child p u k q s i o h t, child_is_listed p u k q s i o h t)

pub returns-clause-once : goal.returns-clause-once
returns-clause-once c = λ p u k q s i o h. children_differ p u k q s i o h
