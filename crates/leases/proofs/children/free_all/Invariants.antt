use Rattle.std.proofs.Common.{◌≤◌, ◌⊎◌, length, Contains}
use Rattle.machine_text.specs.Terms.{Packed}
use Rattle.leases.proofs.FreeLaws.{KeepsAll}
use Rattle.leases.proofs.children.free_all.Given as goal

abbrev pub invariant-loop-child : goal.invariant-loop-child
invariant-loop-child l = record {
  room : length l.child-iterator ≤ l.free.room;
  more : KeepsAll l.fn.free.tables l.free.tables;
  all : (q : Packed) → Contains l.fn.found q → Contains l.free.tables q ⊎ Contains l.child-iterator q;
}
