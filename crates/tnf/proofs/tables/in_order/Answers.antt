use Rattle.std.proofs.Common.{take, ◌∙◌, ap}
use Rattle.machine_text.specs.Terms.{entry_of}
use Rattle.law_turing.proofs.RunLaws.{table_machine}
use Rattle.tnf.proofs.UsedLists.{order_by_marks}
use Rattle.tnf.proofs.tables.in_order.Goals as goal

pub returns : goal.returns
returns c =
    let exact = order_by_marks c.args.t.now.states c.first_unused.result (entry_of c.args.t.now) (take c.states.result c.used_states-used.result) (table_machine c.args.t.now c.states.ensures.table)
    (ap (λ n. take n c.used_states-used.result) c.states.ensures.states ∙ c.used_states-used.ensures) c.first_unused.ensures.within c.first_unused.ensures.before c.first_unused.ensures.at in
    (λ t. exact.0 (c.none_used.ensures.0 t), λ o. c.none_used.ensures.1 (exact.1 o))
