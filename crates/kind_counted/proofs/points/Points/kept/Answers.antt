use Rattle.std.proofs.Common.{◌-◌, slice_index, arith}
use Rattle.law_machines.specs.Terms.{Coset}
use Rattle.kind_counted.specs.inside.Judging.{coset_by}
use Rattle.kind_counted.proofs.JudgingLaws.{kept_join}
use Rattle.kind_counted.proofs.points.Points.kept.Goals as goal

pub loop-x-preserved : goal.loop-x-preserved
loop-x-preserved c =
    let x = c.loop-x.x in
    let sets = c.args.used.now.sets.items in
    let whole : Coset = coset_by c.args.self.base c.args.self.rows.items in
    let before : Coset = coset_by c.loop-x.points.base c.loop-x.points.rows.items in
    let after : Coset = coset_by c.in_ok-points.points.base c.in_ok-points.points.rows.items in
    record {
      kept = kept_join whole before after c.args.from x (slice_index sets c.args.state) (omega arith) c.loop-x.invariant.kept c.in_ok-points.ensures.kept;
    }
