use Rattle.std.proofs.Common.{◌++◌, ◌∷◌, [], List, ℕ, ap, ◌∙◌, subst}
use Rattle.cert.specs.Terms.{read_as}
use Rattle.cmd_lines.specs.Terms.{lent}
use Rattle.cmd_explain.specs.Explained.{SeesRun}
use Rattle.cmd_explain.proofs.Sights.{said_run, said_else}
use Rattle.cmd_explain.proofs.seen.see_line.Goals as goal

pub returns-in_ok-push-in-Some : goal.returns-in_ok-push-in-Some
returns-in_ok-push-in-Some c =
    let run = c.in_ok-append_run-in-Some.ensures in (
      run.0,
      said_run c.args.steps (lent c.args.line) (read_as c.read_line.result) c.table_run.result c.in-Some.t run.0 c.read_line.ensures c.table_run.ensures c.in-Some.is (subst (λ (k : ℕ). SeesRun k c.in-Some.t run.0) c.min.ensures run.1),
      c.in_ok-push-in-Some.ensures.items ∙ ap (λ (text : List ℕ). text ++ 10 ∷ []) run.2,
    )

pub returns-in_ok-outcome-in-None : goal.returns-in_ok-outcome-in-None
returns-in_ok-outcome-in-None c =
    let told = c.in_ok-outcome-in-None.ensures in
    (told.0, said_else c.args.steps (lent c.args.line) (read_as c.read_line.result) c.table_run.result _ told.0 c.read_line.ensures c.table_run.ensures c.in-None.is told.1, told.2)
