use Rattle.std.proofs.Common.{length, Contains}
use Rattle.machine_text.specs.Terms.{Packed}
use Rattle.leases.specs.Leases.{IsFree}
use Rattle.leases.specs.inside.{as_leases, without}
use Rattle.leases.proofs.free_tables.first_free.Given as goal

abbrev pub invariant-loop-t : goal.invariant-loop-t
invariant-loop-t l = (q : Packed) → IsFree l.board (as_leases (without l.but l.live) l.came.entries 0 0) q → Contains l.free.tables q

abbrev pub decreases-loop-t : goal.decreases-loop-t
decreases-loop-t l = length l.free.tables
