use Rattle.std.proofs.Common.{sym, ◌∙◌}
use Rattle.ledger.proofs.HeaderLaws.{unnamed, misnamed, stripped, unstripped}
use Rattle.ledger.proofs.header.root_after.Goals as goal

pub returns-in_default : goal.returns-in_default
returns-in_default c = unnamed c.args.words.now c.args.line.now (unstripped c.args.words.now c.args.line.now c.in_default.ensures.cases)

pub returns-in-Ok : goal.returns-in-Ok
returns-in-Ok c =
    let parts = c.in-Some.ensures.cases in
    record { name = c.in-Some.name.now; is = stripped c.args.words.now c.args.line.now c.in-Some.name.now parts.0 parts.1; reads = sym c.parse.ensures ∙ c.in-Ok.is }

pub returns-in-Err : goal.returns-in-Err
returns-in-Err c =
    let parts = c.in-Some.ensures.cases in
    misnamed c.args.words.now c.args.line.now c.in-Some.name.now c.in-Err.field-0 (stripped c.args.words.now c.args.line.now c.in-Some.name.now parts.0 parts.1) (sym c.parse.ensures ∙ c.in-Err.is)
