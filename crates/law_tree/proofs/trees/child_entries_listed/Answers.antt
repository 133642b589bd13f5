use Rattle.law_tree.proofs.ChildEntries.{listed_is_entry, entry_is_listed, entries_rise, entries_differ}
use Rattle.law_tree.proofs.trees.child_entries_listed.Goals as goal

-- the members of the list, and their order
pub returns-clause-members : goal.returns-clause-members
returns-clause-members c = λ n u m e i. (listed_is_entry n u m e i, entry_is_listed n u m e i)

pub returns-clause-rising : goal.returns-clause-rising
returns-clause-rising c = entries_rise

pub returns-clause-once : goal.returns-clause-once
returns-clause-once c = entries_differ
