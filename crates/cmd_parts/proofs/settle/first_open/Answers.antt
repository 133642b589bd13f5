use Rattle.cmd_parts.proofs.SettledTables.{first_comes}
use Rattle.cmd_parts.proofs.settle.first_open.Goals as goal

pub returns-in-Some-clause-some : goal.returns-in-Some-clause-some
returns-in-Some-clause-some c = first_comes c.args.board.now _ c.in-Some.t.now c.next.new.self c.open.ensures c.in-Some.ensures.steps
