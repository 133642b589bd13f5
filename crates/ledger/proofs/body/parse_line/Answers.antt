use Rattle.std.proofs.Common.{sym, ap, ◌∙◌}
use Rattle.cert.specs.Terms.{read_as, recorded}
use Rattle.ledger.proofs.LedgerTexts.{line_stands, line_unfit, line_unread}
use Rattle.ledger.proofs.body.parse_line.Goals as goal

pub returns-in-Ok : goal.returns-in-Ok
returns-in-Ok c =
    line_stands c.args.format c.args.line.now (recorded c.in-Ok.record) (sym (ap read_as c.in-Ok.is) ∙ c.parse.ensures) c.may_hold.result c.may_hold.ensures c.if-may_hold.true

pub returns-in-Ok-2 : goal.returns-in-Ok-2
returns-in-Ok-2 c =
    line_unfit c.args.format c.args.line.now (recorded c.in-Ok.record) (sym (ap read_as c.in-Ok.is) ∙ c.parse.ensures) c.may_hold.result c.may_hold.ensures c.if-may_hold.false

pub returns-in-Err : goal.returns-in-Err
returns-in-Err c = line_unread c.args.format c.args.line.now c.in-Err.fault (sym (ap read_as c.in-Err.is) ∙ c.parse.ensures)
