use Rattle.std.proofs.Common.{◌≤◌, sym, ◌∙◌, arith}
use Rattle.std.proofs.lemmas.Option.{none-some}
use Rattle.law_turing.proofs.RunLaws.{table_machine}
use Rattle.kind_counted.proofs.certificate.CountedAutomata.check_item.Goals as goal

pub returns-then-item-states-clause-fails : goal.returns-then-item-states-clause-fails
returns-then-item-states-clause-fails c = λ e goes_on.
    let table = c.args.t.now in
    let at = c.args.item.now.at in
    let beyond : table.states ≤ at.state.0 = omega arith in
    none-some goes_on.entry (sym ((table_machine table c.states.ensures.table).beyond at.state.0 at.read beyond) ∙ goes_on.is)
