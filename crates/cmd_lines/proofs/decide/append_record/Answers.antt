use Rattle.std.proofs.Common.{rules}
use Rattle.cmd_lines.proofs.decide.append_record.Goals as goal

-- answered by name, so that nothing is offered where an edit makes it false
pub returns : goal.returns
returns g c = search rules steps 1000000
