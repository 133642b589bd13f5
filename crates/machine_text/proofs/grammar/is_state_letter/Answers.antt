use Rattle.std.proofs.Common.{rules}
use Rattle.machine_text.proofs.grammar.is_state_letter.Goals as goal

-- answered by name, so that nothing is offered where an edit makes it false
pub returns-then-byte-ge65 : goal.returns-then-byte-ge65
returns-then-byte-ge65 c = search rules steps 100000
