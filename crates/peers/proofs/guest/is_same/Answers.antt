use Rattle.std.proofs.Common.{arith}
use Rattle.peers.proofs.Guests.{same_more}
use Rattle.peers.proofs.guest.is_same.Goals as goal

pub loop-i-preserved : goal.loop-i-preserved
loop-i-preserved c = grind (arith, same_more)
