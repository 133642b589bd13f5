use Rattle.std.proofs.Common.{rules, ◌≡◌, List, ◌++◌, sym, subst}
use Rattle.machine_text.specs.Terms.{Packed}
use Rattle.ledger.specs.Terms.{IsOpenOn, AreAll}
use Rattle.cmd_parts.proofs.join.open_tables.Goals as goal

pub loop-root-init : goal.loop-root-init
loop-root-init c =
    let is : c.into_iter-root-iterator.result ≡ c.open-root-items.result = search rules in
    let all : AreAll (IsOpenOn c.args.trunk.now) c.into_iter-root-iterator.result = subst (λ (l : List Packed). AreAll (IsOpenOn c.args.trunk.now) l) (sym is) c.open-root-items.ensures in
    subst (λ (l : List Packed). AreAll (IsOpenOn c.args.trunk.now) (l ++ c.into_iter-root-iterator.result)) (sym c.new-roots.ensures.items) all
