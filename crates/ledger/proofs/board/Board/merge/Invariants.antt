use Rattle.std.proofs.Common.{◌≡◌}
use Rattle.ledger.proofs.Merged.{MergedSoFar}
use Rattle.ledger.proofs.board.Board.merge.Given as goal

abbrev pub invariant-loop-r : goal.invariant-loop-r
invariant-loop-r l = record {
  so_far : MergedSoFar l.fn.self.root l.fn.self.records l.other.records l.r-iterator l.self.records;
  root : l.self.root ≡ l.fn.self.root;
  format : l.self.format ≡ l.fn.self.format;
}
