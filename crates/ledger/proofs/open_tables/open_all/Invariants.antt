use Rattle.std.proofs.Common.{◌≡◌, ◌↔◌, ◌⊎◌}
use Rattle.std.specs.List.{Contains}
use Rattle.std.specs.BTreeMap.{ContainsKey}
use Rattle.machine_text.specs.Terms.{Packed, table_cmp}
use Rattle.law_tree.specs.Terms.{IsChildTable}
use Rattle.ledger.specs.inside.Stored.{records_of}
use Rattle.ledger.specs.inside.Counting.{others, AreChildrenAt, HasUnrecorded}
use Rattle.ledger.proofs.open_tables.open_all.Given as goal

-- what is open, and what the children that are left will open, is what will be open; and but for what was opened here, which
-- are children, the tables are as they were
abbrev pub invariant-loop-child : goal.invariant-loop-child
invariant-loop-child l = record {
  opens : (q : Packed) →
      (ContainsKey table_cmp l.tables q ⊎ HasUnrecorded l.child-iterator (records_of l.records.entries) l.parent q)
      ↔ (ContainsKey table_cmp l.fn.tables q ⊎ HasUnrecorded l.fn.found (records_of l.records.entries) l.parent q);
  back : others l.place l.tables.entries ≡ l.fn.tables.entries;
  children : AreChildrenAt l.place l.parent l.tables.entries;
  left : (t : Packed) → Contains l.child-iterator t → IsChildTable l.parent t;
}
