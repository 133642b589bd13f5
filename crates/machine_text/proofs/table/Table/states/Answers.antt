use Rattle.std.proofs.Common.{rules}
use Rattle.machine_text.proofs.table.Table.states.Goals as goal

-- answered by name, so that nothing is offered where an edit makes it false
pub returns-clause-states : goal.returns-clause-states
returns-clause-states c = search rules steps 100000

pub returns-clause-table : goal.returns-clause-table
returns-clause-table c = search rules steps 100000
