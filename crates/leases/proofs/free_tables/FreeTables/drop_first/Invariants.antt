use Rattle.std.proofs.Common.{length}
use Rattle.leases.specs.inside.{LosesOnly}
use Rattle.leases.proofs.free_tables.FreeTables.drop_first.Given as goal

abbrev pub invariant-loop-first : goal.invariant-loop-first
invariant-loop-first l = LosesOnly l.fn.self.tables l.t l.self.tables

abbrev pub decreases-loop-first : goal.decreases-loop-first
decreases-loop-first l = length l.self.tables
