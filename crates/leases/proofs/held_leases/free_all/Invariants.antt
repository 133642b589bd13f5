use Rattle.leases.proofs.FreeLaws.{KeepsAll, AreFirstIn}
use Rattle.leases.proofs.held_leases.free_all.Given as goal

abbrev pub invariant-loop-t : goal.invariant-loop-t
invariant-loop-t l = record { more : KeepsAll l.fn.free.tables l.free.tables; freed : AreFirstIn l.tables l.t-index l.free.tables }
