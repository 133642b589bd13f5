use Rattle.std.proofs.Common.{◌≡◌, ◌++◌, drop, map, take}
use Rattle.peers.specs.Crew.{forgiven}
use Rattle.peers.proofs.pool.Crew.forget_due.Given as goal

abbrev pub invariant-loop-core : goal.invariant-loop-core
invariant-loop-core g l = l.core-items ≡ map forgiven (take l.core-index l.fn.self.cores) ++ drop l.core-index l.fn.self.cores
