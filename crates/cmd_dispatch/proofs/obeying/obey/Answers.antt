use Rattle.std.proofs.Common.{rules}
use Rattle.cmd_dispatch.proofs.obeying.obey.Goals as goal

-- answered by name, so that nothing is offered where an edit makes it false
pub returns-in-Err : goal.returns-in-Err
returns-in-Err g c = search rules
