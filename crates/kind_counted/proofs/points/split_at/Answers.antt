use Rattle.kind_counted.proofs.JudgingLaws.{listed_more}
use Rattle.std.proofs.Common.{List, take, sym, subst}
use Rattle.law_machines.specs.Terms.{Point}
use Rattle.kind_counted.specs.inside.Judging.{listed, IsSplit}
use Rattle.kind_counted.proofs.points.split_at.Goals as goal

pub loop-row-preserved : goal.loop-row-preserved
loop-row-preserved c =
    let rows = c.args.rows.now in
    let i = c.loop-row.row-index in
    let row = c.row-item.result in
    let x = c.args.place in
    record {
      split = subst (λ (points : List Point). IsSplit points x c.add.new.self.carrier (listed c.add.new.self.rest.items))
          (sym (listed_more rows i row c.loop-row-test.true c.row-item.is)) (c.in_ok-add.ensures.added (listed (take i rows)) c.loop-row.invariant.split);
    }
