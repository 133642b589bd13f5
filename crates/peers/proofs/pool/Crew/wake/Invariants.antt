use Rattle.std.proofs.Common.{◌≡◌, ◌++◌, drop, map, take}
use Rattle.peers.specs.Crew.{woken}
use Rattle.peers.proofs.pool.Crew.wake.Given as goal

abbrev pub invariant-loop-core : goal.invariant-loop-core
invariant-loop-core g l = l.core-items ≡ map woken (take l.core-index l.fn.self.cores) ++ drop l.core-index l.fn.self.cores
