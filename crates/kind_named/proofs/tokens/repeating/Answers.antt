use Rattle.std.proofs.Common.{refl}
use Rattle.kind_named.proofs.Openings.{free_within}
use Rattle.kind_named.proofs.tokens.repeating.Goals as goal

pub returns : goal.returns
returns c = free_within _ refl
