use Rattle.std.proofs.Common.{rules}
use Rattle.lease_core.proofs.coordinator.answer_frame.Goals as goal

-- answered by name, so that nothing is offered where an edit makes it false
pub returns-in_default : goal.returns-in_default
returns-in_default c = search rules steps 1000000
