use Rattle.std.proofs.Common.{rules}
use Rattle.machine_text.proofs.table.undefined_among.Goals as goal

-- answered by name, so that nothing is offered where an edit makes it false
pub returns-clause-count : goal.returns-clause-count
returns-clause-count c = search rules steps 1000000
