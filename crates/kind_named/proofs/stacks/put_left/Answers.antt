use Rattle.kind_named.proofs.TokenLaws.{puts_left_none}
use Rattle.kind_named.proofs.stacks.put_left.Goals as goal

pub returns-then-n-eq0-clause-put : goal.returns-then-n-eq0-clause-put
returns-then-n-eq0-clause-put c = puts_left_none _ _ _ _ c.requires.left c.in-X.is c.if-n-eq0.true
