use Rattle.std.proofs.Common.{sym, subst, ◌↔◌, Contains}
use Rattle.std.specs.Prelude.{List}
use Rattle.machine_text.specs.Terms.{Packed}
use Rattle.law_tree.specs.Terms.{IsChildTable}
use Rattle.ledger.proofs.open_tables.children_on.Goals as goal

pub returns-clause-members : goal.returns-clause-members
returns-clause-members c = λ t.
    let members = c.children_listed.ensures.members c.args.parent.now t c.requires.in_order.0 c.requires.halts.0 c.args.pair.state.0 c.args.pair.symbol c.states.ensures.table c.requires.in_order.1 c.requires.halts.1.halts in
    subst (λ (l : List Packed). Contains l t ↔ IsChildTable c.args.parent.now t) (sym c.children.ensures.list) members
