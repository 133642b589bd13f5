use Rattle.cmd_nodes.proofs.NodeRounds.{round_answered}
use Rattle.cmd_nodes.proofs.rounds.Station.work_for.Goals as goal

pub returns-in-Ok : goal.returns-in-Ok
returns-in-Ok g c = round_answered g.N.Node.answers _ _ _ c.in-Ok.ensures.ok
