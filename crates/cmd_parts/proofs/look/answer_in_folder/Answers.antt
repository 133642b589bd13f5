use Rattle.std.proofs.Common.{[], inl, inr, rules, refl}
use Rattle.std.proofs.KnownBytes.{Appends-nil}
use Rattle.cmd_lines.proofs.AnsweredPieces.{IfErr-from_is_err_and, IfErr-passed, said_so}
use Rattle.cmd_parts.proofs.FolderAnswers.{folder_first, folder_stream}
use Rattle.cmd_parts.proofs.look.answer_in_folder.Goals as goal

pub returns-clause-ok : goal.returns-clause-ok
returns-clause-ok g c =
    let read = c.in_ok-trunk.ensures in record {
      trunk = c.in_ok-trunk.trunk;
      left = read.0;
      reads = search rules;
      answers = folder_stream (λ d. d.parts.now) g.S.PartLedgers.finds (λ d. d.folder.now) (λ d. d.trunk) (λ d. d.part)
          c.args.parts.now c.args.folder.now c.in_ok-trunk.trunk _ _ _ _ _ _ _ refl refl refl refl c.in_ok-outcome.ensures.ok;
    }

pub returns-in_err-path-clause-first : goal.returns-in_err-path-clause-first
returns-in_err-path-clause-first g c = IfErr-from_is_err_and c.from_residual.result _ _ c.from_residual.ensures.1 (λ e is. ([], inl refl, inl (Appends-nil (g.W.Write.contents c.args.answers.now))))

pub returns-in_err-trunk-clause-first : goal.returns-in_err-trunk-clause-first
returns-in_err-trunk-clause-first g c =
    IfErr-from_is_err_and c.from_residual-in_err-trunk.result _ _ c.from_residual-in_err-trunk.ensures.1 (λ e is. ([], inl refl, inl (Appends-nil (g.W.Write.contents c.args.answers.now))))

pub returns-in_err-outcome-clause-first : goal.returns-in_err-outcome-clause-first
returns-in_err-outcome-clause-first g c =
    let read = c.in_ok-trunk.ensures in
    IfErr-passed c.from_residual-in_err-outcome.result _ _ c.from_residual-in_err-outcome.ensures.1 (said_so _ _ _ _ _ (λ said is. inr (inr (
      c.in_ok-trunk.trunk,
      read.0,
      search rules,
      folder_first (λ d. d.parts.now) g.S.PartLedgers.finds (λ d. d.folder.now) (λ d. d.trunk) (λ d. d.part) c.args.parts.now c.args.folder.now c.in_ok-trunk.trunk _ _ _ said refl refl refl refl is,
    ))) c.in_err-outcome.ensures.first)
