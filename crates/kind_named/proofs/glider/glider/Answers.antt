use Rattle.kind_named.specs.inside.Loop.{glider_tokens}
use Rattle.kind_named.proofs.Openings.{glider_free}
use Rattle.kind_named.proofs.glider.glider.Goals as goal

pub returns-clause-free : goal.returns-clause-free
unfolding glider_tokens
returns-clause-free c = glider_free
