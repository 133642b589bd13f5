use Rattle.cmd_lines.specs.Answer.{SaysOfTable}
use Rattle.cmd_lines.proofs.AnsweredLines.{all_kept, early_kept, stream_kept}
use Rattle.cmd_lines.proofs.AnsweredPieces.{IfErr-from_is_err_and, IfErr-passed}
use Rattle.cmd_lines.proofs.decide.decide_for.Goals as goal

pub returns-in_ok-tell-clause-ok : goal.returns-in_ok-tell-clause-ok
returns-in_ok-tell-clause-ok g c = stream_kept _ (SaysOfTable g.D.Decider.answers) _ _ _ _ _ _ _ c.in_ok-outcome.ensures.ok

pub returns-else-eq-clause-ok : goal.returns-else-eq-clause-ok
returns-else-eq-clause-ok g c = stream_kept _ (SaysOfTable g.D.Decider.answers) _ _ _ _ _ _ _ c.in_ok-outcome.ensures.ok

pub returns-in_err-outcome-clause-first : goal.returns-in_err-outcome-clause-first
returns-in_err-outcome-clause-first g c = IfErr-passed c.from_residual.result _ _ c.from_residual.ensures.1 (early_kept _ (SaysOfTable g.D.Decider.answers) _ _ _ _ _ _ c.in_err-outcome.ensures.first)

pub returns-in_err-tell-clause-first : goal.returns-in_err-tell-clause-first
returns-in_err-tell-clause-first g c =
    IfErr-from_is_err_and c.from_residual-in_err-tell.result _ _ c.from_residual-in_err-tell.ensures.1 (λ e is. all_kept _ (SaysOfTable g.D.Decider.answers) _ _ _ _ _ _ _ e c.in_ok-outcome.ensures.ok)
