use Rattle.std.proofs.Common.{rules}
use Rattle.cmd_ledgers.proofs.board_report.status_name.Goals as goal

-- answered by name, so that nothing is offered where an edit makes it false
pub returns-in-Holdouts : goal.returns-in-Holdouts
returns-in-Holdouts c = search rules steps 100000
