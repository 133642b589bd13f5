use Rattle.std.proofs.Common.{◌∙◌, sym, arith}
use Rattle.kind_named.proofs.Sweeps.{turned_odd, turned_even}
use Rattle.kind_named.proofs.visit.Answer.turned.Goals as goal

pub returns-then-count-eq1 : goal.returns-then-count-eq1
returns-then-count-eq1 c = c.other.ensures ∙ sym (turned_odd c.args.self c.args.count (omega arith))

pub returns-else-count-eq1 : goal.returns-else-count-eq1
returns-else-count-eq1 c = sym (turned_even c.args.self c.args.count (omega arith))
