use Rattle.std.proofs.Common.{Ok, Err, refl}
use Rattle.cmd_parts.specs.AtPaths.{finds_at}
use Rattle.cmd_parts.proofs.JoinedParts.{spared_at}
use Rattle.cmd_parts.proofs.join.join_beside.Goals as goal

pub returns-clause-spared : goal.returns-clause-spared
returns-clause-spared g c = spared_at _ _ _ _ c.join_parts.result (λ path told. told refl) c.join_parts.ensures.spared
