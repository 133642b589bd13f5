use Rattle.leases.proofs.FreeLaws.{KeepsAll}
use Rattle.leases.proofs.Moments.{AreFirstFreed}
use Rattle.leases.proofs.live_leases.LiveLeases.free_each.Given as goal

abbrev pub invariant-loop-number : goal.invariant-loop-number
invariant-loop-number l = record { more : KeepsAll l.fn.free.tables l.free.tables; freed : AreFirstFreed l.numbers l.number-index l.self l.free.tables }
