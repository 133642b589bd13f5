use Rattle.std.proofs.Common.{arith}
use Rattle.kind_named.proofs.Openings.{taken_as, pays_all, pays_x, pays_y}
use Rattle.kind_named.proofs.stacks.pay.Goals as goal

pub returns-then-count-n : goal.returns-then-count-n
returns-then-count-n c = pays_all _ _ _ _ _ c.requires (taken_as _ _ _ _ _ c.pop.ensures.items c.in-Some-X.is c.in-Some-X.field-0-is) (omega arith)

pub returns-in_ok-push-in-Some-X : goal.returns-in_ok-push-in-Some-X
returns-in_ok-push-in-Some-X c = pays_x _ _ _ _ _ _ c.requires (taken_as _ _ _ _ _ c.pop.ensures.items c.in-Some-X.is c.in-Some-X.field-0-is) c.in_ok-push-in-Some-X.ensures.items (omega arith)

pub returns-in_ok-push-in-Some-Y : goal.returns-in_ok-push-in-Some-Y
returns-in_ok-push-in-Some-Y c = pays_y _ _ _ _ _ _ c.requires (taken_as _ _ _ _ _ c.pop.ensures.items c.in-Some-Y.is c.in-Some-Y.field-0-is) c.in_ok-push-in-Some-Y.ensures.items (omega arith)
