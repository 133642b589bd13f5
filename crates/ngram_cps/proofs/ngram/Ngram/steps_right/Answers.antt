use Rattle.std.proofs.Common.{rules}
use Rattle.ngram_cps.proofs.ngram.Ngram.steps_right.Goals as goal

pub returns : goal.returns
returns c = (λ t. record { leaves = c.leaves_left.ensures.0 (search rules); zero = c.follows_right.ensures.0 (search rules); one = c.follows_right-2.ensures.0 t }, λ s. c.follows_right-2.ensures.1 s.one)
