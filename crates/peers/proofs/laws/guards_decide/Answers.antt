use Rattle.peers.proofs.PeerLines.{guards_all}
use Rattle.peers.proofs.laws.guards_decide.Goals as goal

pub returns : goal.returns
returns g c = λ connections old new exchanges place before after rounds was now. guards_all g.N.Node.answers (g.C.Connections.takes connections) old exchanges new place before after rounds was now
