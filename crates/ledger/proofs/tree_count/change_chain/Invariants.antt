use Rattle.std.proofs.Common.{◌≡◌, ◌+◌, ◌<◌, ◌^◌, ◌%◌, length}
use Rattle.ledger.specs.inside.Trees.{OnChain}
use Rattle.ledger.proofs.Ancestors.{AreWalked}
use Rattle.ledger.proofs.tree_count.change_chain.Given as goal

-- the places that are past have the change, the others on the chain stand on what is left of it
abbrev pub invariant-loop-place : goal.invariant-loop-place
invariant-loop-place l = record {
  walked : AreWalked l.change l.fn.records.entries l.from l.place l.records.entries;
  there : l.place + 1 < 2 ^ 32 → OnChain l.fn.records.entries l.from l.place × (l.place < length l.fn.records.entries);
  as_many : length l.records.entries ≡ length l.fn.records.entries;
}

-- the place after the last comes to 0
abbrev pub decreases-loop-place : goal.decreases-loop-place
decreases-loop-place l = (l.place + 1) % 4294967296
