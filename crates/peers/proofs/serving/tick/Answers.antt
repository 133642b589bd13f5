use Rattle.std.proofs.Common.{refl}
use Rattle.peers.proofs.serving.tick.Goals as goal

pub returns-clause-ok : goal.returns-clause-ok
returns-clause-ok g c =
    let done = c.in_ok-hand_alone.ensures.ok in
    rw c.tell_moment.ensures (done.0, done.1, refl, done.2)
