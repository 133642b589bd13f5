use Rattle.kind_named.proofs.Leading.{lead_from}
use Rattle.kind_named.proofs.visit.step.Goals as goal

pub returns-in_ok-after-in-Right : goal.returns-in_ok-after-in-Right
returns-in_ok-after-in-Right c = lead_from _ _ _ _ _ _ _ c.in-Right.is (c.in_ok-after-in-Right.ensures c.args.beyond)
