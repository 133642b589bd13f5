use Rattle.machine_text.proofs.Tables.{same_table}
use Rattle.machine_text.proofs.laws.tables_are_maps.Goals as goal

pub returns : goal.returns
returns c = same_table
