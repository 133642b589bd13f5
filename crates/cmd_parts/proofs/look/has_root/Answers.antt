use Rattle.std.proofs.Common.{rules, ◌≡◌, Some, sym, subst, ◌∙◌}
use Rattle.ledger.specs.Terms.{same_table}
use Rattle.ledger.proofs.Claims.{same_is}
use Rattle.cmd_parts.specs.inside.Joining.{HoldsPartOf}
use Rattle.cmd_parts.proofs.look.has_root.Goals as goal

pub returns-in-Some : goal.returns-in-Some
unfolding same_table
returns-in-Some c = λ yes. subst (λ p. HoldsPartOf p c.args.root.now) (sym c.in-Some.is)
    (sym c.root.ensures.root ∙ same_is c.root.result.now c.args.root.now (sym c.eq.ensures ∙ yes))
