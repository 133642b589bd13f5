use Rattle.cmd_lines.proofs.AnsweredLines.{early_answered, stream_answered}
use Rattle.cmd_lines.proofs.AnsweredPieces.{IfErr-passed}
use Rattle.cmd_lines.specs.Terms.{SaysOfRecord}
use Rattle.cmd_explain.proofs.explain.check_why_for.Goals as goal

pub returns-clause-ok : goal.returns-clause-ok
returns-clause-ok g c = stream_answered SaysOfRecord _ _ _ _ _ _ _ c.in_ok-outcome.ensures.ok

pub returns-in_err-outcome-clause-first : goal.returns-in_err-outcome-clause-first
returns-in_err-outcome-clause-first g c = IfErr-passed c.from_residual.result _ _ c.from_residual.ensures.1 (early_answered SaysOfRecord _ _ _ _ _ _ c.in_err-outcome.ensures.first)
