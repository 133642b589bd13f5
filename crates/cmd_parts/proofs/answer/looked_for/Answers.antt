use Rattle.std.proofs.Common.{◌∙◌}
use Rattle.cmd_parts.proofs.ToldLedgers.{root_missing}
use Rattle.cmd_parts.proofs.answer.looked_for.Goals as goal

pub returns-clause-ok : goal.returns-clause-ok
returns-clause-ok g c =
    root_missing c.args.came.now.keys c.args.root.now c.says.result (g.E.Write.contents c.args.faults.now) (g.E.Write.contents c.says.new.faults) c.deref.result.now
    (λ there. let yes = c.has_root.ensures.1 there in let none = c.if-has_root.false in absurd (cc)) (c.deref.ensures.value ∙ c.in_ok-name.ensures) c.says.ensures.ok
