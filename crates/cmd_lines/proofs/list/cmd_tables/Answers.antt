use Rattle.cmd_lines.proofs.AnsweredPieces.{told_saying}
use Rattle.cmd_lines.proofs.list.cmd_tables.Goals as goal

pub returns : goal.returns
returns g c = told_saying _ _ _ _ c.list_tables.result _ _ _ c.list_tables.ensures.ok c.list_tables.ensures.first c.list_tables.ensures.err c.told.ensures
