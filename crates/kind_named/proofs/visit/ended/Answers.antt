use Rattle.kind_named.proofs.Leading.{no_token}
use Rattle.kind_named.proofs.visit.ended.Goals as goal

pub returns-then-is_empty : goal.returns-then-is_empty
returns-then-is_empty c = (c.in-Right.is, no_token _ (c.args.right.now.ok.0) c.if-is_empty.ensures)
