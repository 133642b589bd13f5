use Rattle.cmd_explain.specs.declared.seen.Seer.{Seer}
use Rattle.cmd_explain.proofs.Sights.{early_kept, stream_kept}
use Rattle.cmd_lines.proofs.AnsweredPieces.{IfErr-passed}
use Rattle.cmd_explain.proofs.seen.explain_run_for.Goals as goal

pub returns-clause-ok : goal.returns-clause-ok
returns-clause-ok g c = stream_kept {D = Seer} (λ s. s.steps) _ _ _ _ _ _ _ c.in_ok-outcome.ensures.ok

pub returns-in_err-outcome-clause-first : goal.returns-in_err-outcome-clause-first
returns-in_err-outcome-clause-first g c = IfErr-passed c.from_residual.result _ _ c.from_residual.ensures.1 (early_kept {D = Seer} (λ s. s.steps) _ _ _ _ _ _ c.in_err-outcome.ensures.first)
