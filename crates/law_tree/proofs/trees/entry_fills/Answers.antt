use Rattle.law_tree.proofs.TableLaws.{with_entry_table, with_entry_fills}
use Rattle.law_tree.proofs.trees.entry_fills.Goals as goal

-- one code is written
pub returns-clause-table : goal.returns-clause-table
returns-clause-table c = with_entry_table

pub returns-clause-map : goal.returns-clause-map
returns-clause-map c = with_entry_fills
