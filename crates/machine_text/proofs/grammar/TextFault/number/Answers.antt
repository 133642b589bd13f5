use Rattle.std.proofs.Common.{rules}
use Rattle.machine_text.proofs.grammar.TextFault.number.Goals as goal

-- answered by name, so that nothing is offered where an edit makes it false
pub returns-in-BadBar : goal.returns-in-BadBar
returns-in-BadBar c = search rules steps 100000
