use Rattle.machine_text.proofs.Tables.{IsTable-tabulated, entry_of-tabulated, IsMapOf-table, IsMapOf-filled}
use Rattle.machine_text.proofs.laws.maps_have_tables.Goals as goal

pub returns-clause-table : goal.returns-clause-table
returns-clause-table c = IsTable-tabulated

pub returns-clause-map : goal.returns-clause-map
returns-clause-map c = entry_of-tabulated

pub returns-clause-of_table : goal.returns-clause-of_table
returns-clause-of_table c = IsMapOf-table

pub returns-clause-filled : goal.returns-clause-filled
returns-clause-filled c n p m r e = IsMapOf-filled n m p r e
