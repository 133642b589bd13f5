use Rattle.std.proofs.Common.{take}
use Rattle.kind_counted.specs.inside.Judging.{listed, IsSplit}
use Rattle.kind_counted.proofs.points.split_at.Given as goal

abbrev pub invariant-loop-row : goal.invariant-loop-row
invariant-loop-row l = record {
  split : IsSplit (listed (take l.row-index l.rows)) l.place l.split.carrier (listed l.split.rest.items);
}
