use Rattle.std.proofs.Common.{refl}
use Rattle.kind_named.specs.inside.Loop.{glider_end}
use Rattle.kind_named.proofs.Openings.{free_within}
use Rattle.kind_named.proofs.glider.glider_end.Goals as goal

pub returns-clause-free : goal.returns-clause-free
unfolding glider_end
returns-clause-free c = free_within _ refl
