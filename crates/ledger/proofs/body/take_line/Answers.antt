use Rattle.std.proofs.Common.{inl, inr, sym, ap, ◌∙◌}
use Rattle.cert.specs.Terms.{recorded}
use Rattle.ledger.specs.LedgerText.{ledger_record}
use Rattle.ledger.specs.declared.header.Format.{Format}
use Rattle.ledger.proofs.body.take_line.Goals as goal

pub returns-in-Ok-New-clause-gives : goal.returns-in-Ok-New-clause-gives
returns-in-Ok-New-clause-gives c =
    let gives = rw c.in-Ok-New.field-0-is at c.in-Ok-New.ensures.gives in
    (recorded c.in-Ok.record, ap (λ (f : Format). ledger_record f c.args.line.now) (sym c.version.ensures) ∙ sym c.in-Ok.ensures, inl gives)

pub returns-in-Ok-Settled-clause-gives : goal.returns-in-Ok-Settled-clause-gives
returns-in-Ok-Settled-clause-gives c =
    let gives = rw c.in-Ok-Settled.field-0-is at c.in-Ok-Settled.ensures.gives in
    (recorded c.in-Ok.record, ap (λ (f : Format). ledger_record f c.args.line.now) (sym c.version.ensures) ∙ sym c.in-Ok.ensures, inr gives)
