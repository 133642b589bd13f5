use Rattle.std.proofs.Common.{take, ◌∙◌, ap}
use Rattle.machine_text.specs.Terms.{entry_of}
use Rattle.law_turing.proofs.RunLaws.{table_machine}
use Rattle.law_tree.proofs.Used.{used_number}
use Rattle.tnf.proofs.UsedLists.{count_of_marks, number_of_used}
use Rattle.tnf.proofs.tables.used.Goals as goal

pub returns-clause-count : goal.returns-clause-count
returns-clause-count c =
    count_of_marks c.args.t.now.states c.count_used.result (entry_of c.args.t.now) (take c.states.result c.used_states.result)
    (ap (λ n. take n c.used_states.result) c.states.ensures.states ∙ c.used_states.ensures) c.count_used.ensures.count

pub returns-clause-number : goal.returns-clause-number
returns-clause-number c =
    number_of_used c.args.t.now.states c.count_used.result (entry_of c.args.t.now) (table_machine c.args.t.now c.states.ensures.table) (returns-clause-count c)

pub returns-clause-order : goal.returns-clause-order
returns-clause-order c = λ u o. returns-clause-count c ∙ used_number c.args.t.now.states u (entry_of c.args.t.now) (table_machine c.args.t.now c.states.ensures.table) o
