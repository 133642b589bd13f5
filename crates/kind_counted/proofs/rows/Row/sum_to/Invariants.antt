use Rattle.kind_counted.specs.Numbers.{point_of}
use Rattle.kind_counted.specs.inside.Judging.{IsReduced}
use Rattle.kind_counted.proofs.rows.Row.sum_to.Given as goal

abbrev pub invariant-loop-row : goal.invariant-loop-row
invariant-loop-row l = record {
  reduced : IsReduced l.rows (point_of l.counts.numbers) l.row-index (point_of l.rest.numbers);
}
