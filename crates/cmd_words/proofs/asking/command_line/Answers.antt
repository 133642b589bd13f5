use Rattle.std.proofs.Common.{◌≡◌, true, Option, List, ℕ, Some, sym, ◌∙◌, subst, codes}
use Rattle.std.proofs.lemmas.Result.{IfOk-weaker}
use Rattle.clap.specs.Words.{Row, app_of, is_simple, subcommand_of}
use Rattle.cmd_words.specs.Asked.{AreAsked, IsSource, OfCommand, IsFlag, rows_found}
use Rattle.cmd_words.proofs.Givens.{both_of}
use Rattle.cmd_words.proofs.asking.command_line.Goals as goal

pub returns-in-Some-clause-asked : goal.returns-in-Some-clause-asked
returns-in-Some-clause-asked c =
    let met = both_of _ _ _ c.in-Some.name.now (rows_found c.in-Some.command.now) (sym c.in-Some.ensures.name) (sym c.in-Some.ensures.rows) in
    IfOk-weaker c.line_of.result _ _
    (λ line asks. (app_of c.in_ok-program.field-0, λ simple. subst (λ o. AreAsked o line.asked) (sym (sym (c.in-Ok.ensures.matches simple).1 ∙ met)) asks))
    c.line_of.ensures.asked

pub returns-in-Some-clause-why : goal.returns-in-Some-clause-why
returns-in-Some-clause-why c =
    let met = both_of _ _ _ c.in-Some.name.now (rows_found c.in-Some.command.now) (sym c.in-Some.ensures.name) (sym c.in-Some.ensures.rows) in
    IfOk-weaker c.line_of.result _ _
    (λ line holds. (app_of c.in_ok-program.field-0, λ simple. subst (OfCommand (λ rows. IsFlag rows (codes "why") line.why)) (sym (sym (c.in-Ok.ensures.matches simple).1 ∙ met)) holds))
    c.line_of.ensures.why

pub returns-in-Some-clause-source : goal.returns-in-Some-clause-source
returns-in-Some-clause-source c =
    let met = both_of _ _ _ c.in-Some.name.now (rows_found c.in-Some.command.now) (sym c.in-Some.ensures.name) (sym c.in-Some.ensures.rows) in
    IfOk-weaker c.line_of.result _ _
    (λ line holds. (app_of c.in_ok-program.field-0, λ simple. subst (OfCommand (λ rows. IsSource rows line.source)) (sym (sym (c.in-Ok.ensures.matches simple).1 ∙ met)) holds))
    c.line_of.ensures.source

pub returns-in-Some-clause-lenient : goal.returns-in-Some-clause-lenient
returns-in-Some-clause-lenient c =
    let met = both_of _ _ _ c.in-Some.name.now (rows_found c.in-Some.command.now) (sym c.in-Some.ensures.name) (sym c.in-Some.ensures.rows) in
    IfOk-weaker c.line_of.result _ _
    (λ line holds. (app_of c.in_ok-program.field-0, λ simple. subst (OfCommand (λ rows. IsFlag rows (codes "lenient") line.lenient)) (sym (sym (c.in-Ok.ensures.matches simple).1 ∙ met)) holds))
    c.line_of.ensures.lenient
