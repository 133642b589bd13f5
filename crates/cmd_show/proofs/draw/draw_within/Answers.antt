use Rattle.cmd_show.specs.declared.draw.Pictures.{Pictures}
use Rattle.cmd_show.specs.Drawn.{DrawsLine}
use Rattle.cmd_show.proofs.PictureLaws.{early_taken, stream_taken}
use Rattle.cmd_lines.proofs.AnsweredPieces.{IfErr-passed}
use Rattle.cmd_show.proofs.draw.draw_within.Goals as goal

pub returns-clause-ok : goal.returns-clause-ok
returns-clause-ok g c = (
  _,
  stream_taken {D = Pictures _} (λ p. p.folder.now) (λ p. p.host.now) (DrawsLine g.H.Files.tells_same g.H.Files.holds)
      _ _ _ _ _ _ _ c.in_ok-outcome.ensures.ok,
)

pub returns-in_err-outcome-clause-first : goal.returns-in_err-outcome-clause-first
returns-in_err-outcome-clause-first g c = IfErr-passed c.from_residual.result _ _ c.from_residual.ensures.1 (early_taken {D = Pictures _} (λ p. p.folder.now) (λ p. p.host.now) (DrawsLine g.H.Files.tells_same g.H.Files.holds)
    _ _ _ _ _ _ c.in_err-outcome.ensures.first)
