use Rattle.cmd_lines.proofs.AnsweredPieces.{IfErr-from_is_err_and, IfErr-passed, stream_first}
use Rattle.cmd_show.specs.Drawn.{Picks}
use Rattle.cmd_show.proofs.draw.draw_first.Goals as goal

pub returns-in_err-outcome-clause-first : goal.returns-in_err-outcome-clause-first
returns-in_err-outcome-clause-first g c = IfErr-passed c.from_residual.result _ _ c.from_residual.ensures.1 c.in_err-outcome.ensures.first

pub returns-in_err-write_picture-clause-first : goal.returns-in_err-write_picture-clause-first
returns-in_err-write_picture-clause-first g c =
    IfErr-from_is_err_and c.from_residual-in_err-write_picture.result _ _ c.from_residual-in_err-write_picture.ensures.1 (λ e is. stream_first Picks _ _ _ _ _ _ _ e c.in_ok-outcome.ensures.ok)
