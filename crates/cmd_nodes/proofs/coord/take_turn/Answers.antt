use Rattle.cmd_nodes.proofs.NodeRounds.{handed_becomes}
use Rattle.cmd_nodes.proofs.coord.take_turn.Goals as goal

pub returns-in-Ok-clause-became : goal.returns-in-Ok-clause-became
returns-in-Ok-clause-became g c = handed_becomes g.N.Node.answers _ _ _ _ c.in-Ok.ensures.turned.3.0
