use Rattle.cmd_lines.proofs.AnsweredPieces.{told_saying}
use Rattle.cmd_lines.proofs.check.cmd_check.Goals as goal

pub returns : goal.returns
returns g c = told_saying _ _ _ _ c.check_for.result _ _ _ c.check_for.ensures.ok c.check_for.ensures.first c.check_for.ensures.err c.told.ensures
