use Rattle.std.proofs.Common.{rules}
use Rattle.machine_text.proofs.grammar.states_in.Goals as goal

-- answered by name, so that nothing is offered where an edit makes it false
pub returns-else-states-text-clause-none : goal.returns-else-states-text-clause-none
returns-else-states-text-clause-none c = search rules steps 100000
