use Rattle.std.proofs.Common.{◌≡◌, ◌≢◌, refl, sym, ◌∙◌}
use Rattle.ledger.specs.Terms.{same_table}
use Rattle.ledger.proofs.Claims.{apart, same_is}
use Rattle.cmd_parts.proofs.part_files.with_root.Goals as goal

pub returns-then-eq : goal.returns-then-eq
unfolding same_table
returns-then-eq c =
    (refl, sym c.root.ensures.root ∙ same_is c.root.result.now c.args.root.now (sym c.eq.ensures ∙ c.if-eq.true))

pub returns-else-eq : goal.returns-else-eq
unfolding same_table
returns-else-eq c = λ same. apart c.root.result.now c.args.root.now (sym c.eq.ensures ∙ c.if-eq.false) (c.root.ensures.root ∙ same)
