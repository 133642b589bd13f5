use Rattle.std.proofs.Common.{refl}
use Rattle.cmd_json.specs.Objects.{SaysChecked}
use Rattle.cmd_json.specs.declared.records.Checker.{Checker}
use Rattle.cmd_json.proofs.JsonAnswers.{early_numbered, stream_numbered}
use Rattle.cmd_lines.proofs.AnsweredPieces.{IfErr-passed}
use Rattle.cmd_json.proofs.records.check_json_for.Goals as goal

pub returns-clause-ok : goal.returns-clause-ok
returns-clause-ok g c = stream_numbered (λ (d : Checker). d.lines) SaysChecked _ _ _ _ _ _ _ refl c.in_ok-outcome.ensures.ok

pub returns-in_err-outcome-clause-first : goal.returns-in_err-outcome-clause-first
returns-in_err-outcome-clause-first g c = IfErr-passed c.from_residual.result _ _ c.from_residual.ensures.1 (early_numbered (λ (d : Checker). d.lines) SaysChecked _ _ _ _ _ _ refl c.in_err-outcome.ensures.first)
