use Rattle.cmd_lines.specs.declared.list.Lister.{Lister}
use Rattle.cmd_lines.proofs.Firsts.{all_listed, early_listed, stream_listed}
use Rattle.cmd_lines.proofs.AnsweredPieces.{IfErr-from_is_err_and, IfErr-passed}
use Rattle.cmd_lines.proofs.list.list_tables.Goals as goal

pub returns-clause-ok : goal.returns-clause-ok
returns-clause-ok g c = stream_listed {D = Lister} (λ l. l.form.listing) (λ l. l.came.keys) _ _ _ _ _ _ _ c.new.ensures.empty c.in_ok-outcome.ensures.ok

pub returns-in_err-outcome-clause-first : goal.returns-in_err-outcome-clause-first
returns-in_err-outcome-clause-first g c =
    IfErr-passed c.from_residual.result _ _ c.from_residual.ensures.1 (early_listed {D = Lister} (λ l. l.form.listing) (λ l. l.came.keys) _ _ _ _ _ _ c.new.ensures.empty c.in_err-outcome.ensures.first)

pub returns-in_err-tell-clause-first : goal.returns-in_err-tell-clause-first
returns-in_err-tell-clause-first g c =
    IfErr-from_is_err_and c.from_residual-in_err-tell.result _ _ c.from_residual-in_err-tell.ensures.1 (λ e is. all_listed {D = Lister} (λ l. l.form.listing) (λ l. l.came.keys) _ _ _ _ _ _ _ e c.new.ensures.empty c.in_ok-outcome.ensures.ok)
