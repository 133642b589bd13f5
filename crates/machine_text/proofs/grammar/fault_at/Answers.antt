use Rattle.machine_text.specs.Text.{fault_at}
use Rattle.std.proofs.Common.{rules}
use Rattle.machine_text.proofs.grammar.fault_at.Goals as goal

-- answered by name, so that nothing is offered where an edit makes it false
pub returns-else-fits : goal.returns-else-fits
unfolding fault_at
returns-else-fits c = search rules steps 1000000
