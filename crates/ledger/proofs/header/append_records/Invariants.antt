use Rattle.std.proofs.Common.{◌≡◌, ◌++◌, map, take, length}
use Rattle.ledger.specs.LedgerText.{ledger_line}
use Rattle.ledger.specs.declared.header.Format.TheVariants.{Two}
use Rattle.text.specs.Terms.{joined}
use Rattle.ledger.proofs.header.append_records.Given as goal

-- what is written, and the lines that are left, are what will be written
abbrev pub invariant-loop-r : goal.invariant-loop-r
invariant-loop-r l = record {
  whole : l.out.items ++ joined (map (ledger_line Two) l.r-iterator) ≡ l.fn.out.items ++ joined (map (ledger_line Two) l.fn.records);
  kept : take (length l.fn.out.items) l.out.items ≡ l.fn.out.items;
}
