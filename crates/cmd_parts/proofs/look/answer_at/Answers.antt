use Rattle.std.proofs.Common.{[], inl, inr, refl}
use Rattle.std.proofs.KnownBytes.{Appends-nil}
use Rattle.cmd_lines.proofs.AnsweredPieces.{IfErr-passed, said_so}
use Rattle.cmd_parts.proofs.FolderAnswers.{ledger_first, ledger_stream}
use Rattle.cmd_parts.proofs.look.answer_at.Goals as goal

pub returns-in_ok-outcome-in-Ok-clause-ok : goal.returns-in_ok-outcome-in-Ok-clause-ok
returns-in_ok-outcome-in-Ok-clause-ok g c = inl (record {
  board = c.in-Ok.board;
  left = c.in-Ok.ensures.0;
  reads = c.in-Ok.ensures.1;
  answers = ledger_stream (λ d. d.board) c.in-Ok.board _ _ _ _ _ _ _ refl c.in_ok-outcome-in-Ok.ensures.ok;
})

pub returns-in_err-outcome-in-Ok-clause-first : goal.returns-in_err-outcome-in-Ok-clause-first
returns-in_err-outcome-in-Ok-clause-first g c =
    IfErr-passed c.from_residual.result _ _ c.from_residual.ensures.1 (said_so _ _ _ _ _ (λ said is. inr (inl (c.in-Ok.board, c.in-Ok.ensures.0, c.in-Ok.ensures.1, ledger_first (λ d. d.board) c.in-Ok.board _ _ _ said refl is))) c.in_err-outcome-in-Ok.ensures.first)

pub returns-in-Err-clause-first : goal.returns-in-Err-clause-first
returns-in-Err-clause-first g c = ([], inl refl, inl (Appends-nil (g.W.Write.contents c.args.answers.now)))
