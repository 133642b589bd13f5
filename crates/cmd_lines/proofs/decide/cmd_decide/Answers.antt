use Rattle.cmd_lines.proofs.AnsweredPieces.{told_saying}
use Rattle.cmd_lines.proofs.decide.cmd_decide.Goals as goal

pub returns : goal.returns
returns g c = told_saying _ _ _ _ c.decide_for.result _ _ _ c.decide_for.ensures.ok c.decide_for.ensures.first c.decide_for.ensures.err c.told.ensures
