use Rattle.std.proofs.Common.{rules}
use Rattle.lease_core.proofs.worker_turns.has_few.Goals as goal

-- answered by name, so that nothing is offered where an edit makes it false
pub returns : goal.returns
returns c = search rules steps 100000
