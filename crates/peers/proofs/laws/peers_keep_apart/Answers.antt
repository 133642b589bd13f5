use Rattle.peers.proofs.PeerLines.{said_nothing, goes_on}
use Rattle.peers.proofs.laws.peers_keep_apart.Goals as goal

pub returns-clause-first : goal.returns-clause-first
returns-clause-first g c = said_nothing

pub returns-clause-apart : goal.returns-clause-apart
returns-clause-apart g c =
    λ connections old new exchanges place said before after rounds was has now.
    goes_on g.N.Node.answers (g.C.Connections.takes connections) old exchanges new place said before after rounds was has now
