use Rattle.std.proofs.Common.{◌∙◌, refl, sym, ap, inl, inr}
use Rattle.machine_text.specs.Terms.{empty_table}
use Rattle.ledger.specs.Terms.{same_table}
use Rattle.ledger.proofs.Claims.{same_is, apart}
use Rattle.libbb.proofs.tree_answer.whole.Goals as goal

pub returns-then-eq : goal.returns-then-eq
unfolding same_table
returns-then-eq c = inl (refl, same_is c.args.root.now c.empty.result (sym c.eq.ensures ∙ c.if-eq.true) ∙ c.empty.ensures.table ∙ ap empty_table c.states.ensures.states)

pub returns-else-eq : goal.returns-else-eq
unfolding same_table
returns-else-eq c = inr (refl, λ e. apart c.args.root.now c.empty.result (sym c.eq.ensures ∙ c.if-eq.false) (e ∙ sym (c.empty.ensures.table ∙ ap empty_table c.states.ensures.states)))
