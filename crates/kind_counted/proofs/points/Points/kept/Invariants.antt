use Rattle.std.proofs.Common.{◌-◌, slice_index}
use Rattle.kind_counted.specs.inside.Judging.{coset_by, AreKeptIn}
use Rattle.kind_counted.proofs.points.Points.kept.Given as goal

abbrev pub invariant-loop-x : goal.invariant-loop-x
invariant-loop-x l = record {
  kept : AreKeptIn (coset_by l.fn.self.base l.fn.self.rows.items) l.from l.x (slice_index l.used.sets.items l.state) (coset_by l.points.base l.points.rows.items);
}
