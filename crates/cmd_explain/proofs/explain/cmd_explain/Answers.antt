use Rattle.cmd_lines.proofs.AnsweredPieces.{told_saying}
use Rattle.cmd_explain.proofs.explain.cmd_explain.Goals as goal

pub returns : goal.returns
returns g c = told_saying _ _ _ _ c.explain_for.result _ _ _ c.explain_for.ensures.ok c.explain_for.ensures.first c.explain_for.ensures.err c.told.ensures
