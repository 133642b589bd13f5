use Rattle.peers.proofs.Answering.{rounds_answer}
use Rattle.peers.proofs.laws.answers_follow.Goals as goal

pub returns : goal.returns
returns g c = λ connections old new exchanges rounds. rounds_answer g.N.Node.answers (g.C.Connections.takes connections) old exchanges new rounds
