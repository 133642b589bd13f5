use Rattle.std.proofs.Common.{refl}
use Rattle.cmd_json.specs.Objects.{SaysDecided}
use Rattle.cmd_json.specs.declared.records.Answerer.{Answerer}
use Rattle.cmd_json.proofs.JsonAnswers.{early_numbered, stream_numbered}
use Rattle.cmd_lines.proofs.AnsweredPieces.{IfErr-passed}
use Rattle.cmd_json.proofs.records.decide_json_for.Goals as goal

pub returns-clause-ok : goal.returns-clause-ok
returns-clause-ok g c = stream_numbered (λ (d : Answerer g.row.D.Denot). d.lines) (SaysDecided g.D.Decider.answers) _ _ _ _ _ _ _ refl c.in_ok-outcome.ensures.ok

pub returns-in_err-outcome-clause-first : goal.returns-in_err-outcome-clause-first
returns-in_err-outcome-clause-first g c = IfErr-passed c.from_residual.result _ _ c.from_residual.ensures.1 (early_numbered (λ (d : Answerer g.row.D.Denot). d.lines) (SaysDecided g.D.Decider.answers) _ _ _ _ _ _ refl c.in_err-outcome.ensures.first)
