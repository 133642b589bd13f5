use Rattle.std.proofs.Common.{◌≡◌, ◌≤◌, ◌⊎◌, Some, length, Contains}
use Rattle.machine_text.specs.Terms.{Packed}
use Rattle.indexmap.specs.IndexMap.{spare}
use Rattle.indexmap.specs.IndexSet.{spare as spare_of}
use Rattle.ledger.specs.Terms.{IsOpenOn}
use Rattle.leases.specs.Leases.{came_under}
use Rattle.leases.specs.inside.{CameOnly}
use Rattle.leases.proofs.FreeLaws.{KeepsAll}
use Rattle.leases.proofs.children.lease_all.Given as goal

abbrev pub invariant-loop-child : goal.invariant-loop-child
invariant-loop-child l = record {
  came_room : length l.child-iterator ≤ spare l.came;
  tables_room : length l.child-iterator ≤ spare_of l.tables;
  part : KeepsAll l.child-iterator l.fn.found;
  here : (q : Packed) → Contains l.fn.found q → IsOpenOn l.board q → (came_under l.came.entries q ≡ Some l.number) ⊎ Contains l.child-iterator q;
  other : (q : Packed) → (Contains l.fn.found q → ⊥) → came_under l.came.entries q ≡ came_under l.fn.came.entries q;
  only : CameOnly l.board l.number l.fn.came.entries l.came.entries l.tables.keys;
  more : KeepsAll l.fn.tables.keys l.tables.keys;
}
