use Rattle.kind_named.proofs.Looping.{never}
use Rattle.kind_named.proofs.tokens.comes_again.Goals as goal

pub returns : goal.returns
returns c = λ yes. never _ _ _ _ _ _ _ c.repeating-tokens.ensures c.requires.reaches.2 (c.in_ok-take_tail.ensures.taken c.if-not-branch.false) (c.in_ok-seen.ensures yes)
