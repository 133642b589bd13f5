use Rattle.std.proofs.Common.{rules}
use Rattle.cmd_options.proofs.ended.Outcome.status.Goals as goal

-- answered by name, so that nothing is offered where an edit makes it false
pub returns-in-Refused : goal.returns-in-Refused
returns-in-Refused c = search rules steps 100000
