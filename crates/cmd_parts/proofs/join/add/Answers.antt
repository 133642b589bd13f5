use Rattle.cmd_parts.proofs.JoinedParts.{both_ok}
use Rattle.cmd_parts.proofs.join.add.Goals as goal

pub returns-in-Ok : goal.returns-in-Ok
returns-in-Ok g c = both_ok _ _ c.add-in-Ok.result c.in-Ok.ensures c.add-in-Ok.ensures.ok c.add-in-Ok.ensures.counts
