use Rattle.std.proofs.Common.{take}
use Rattle.kind_counted.specs.Pivots.{points}
use Rattle.kind_counted.specs.inside.Judging.{listed, AreSumsOf}
use Rattle.kind_counted.proofs.points.Points.check_rows.Given as goal

abbrev pub invariant-loop-row : goal.invariant-loop-row
invariant-loop-row l = record {
  sums : AreSumsOf (points l.k.rows.items) (listed (take l.row-index l.self.rows.items));
}
