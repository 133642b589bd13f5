use Rattle.law_tree.proofs.TableLaws.{tabulated_table, tabulated_map}
use Rattle.law_tree.proofs.trees.machine_has_table.Goals as goal

-- the table of its entries
pub returns-clause-table : goal.returns-clause-table
returns-clause-table c = tabulated_table

pub returns-clause-map : goal.returns-clause-map
returns-clause-map c = tabulated_map
