use Rattle.std.proofs.Common.{◌≡◌, ◌<◌, List, length, get_or, sym, subst}
use Rattle.std.proofs.lemmas.Result.{err_from_is_err_and}
use Rattle.kind_counted.specs.declared.numbers.Counts.{Counts}
use Rattle.kind_counted.specs.declared.rows.Row.{Row}
use Rattle.law_machines.specs.Terms.{Point, IsSum}
use Rattle.kind_counted.specs.Numbers.{point_of}
use Rattle.kind_counted.specs.Pivots.{points}
use Rattle.kind_counted.proofs.JudgingLaws.{sums_first, sums_more, not_sums}
use Rattle.kind_counted.proofs.points.Points.check_rows.Goals as goal

pub loop-row-init : goal.loop-row-init
loop-row-init c = record { sums = sums_first (points c.args.k.now.rows.items) }

pub returns-in_err-sum_to-clause-fails : goal.returns-in_err-sum_to-clause-fails
returns-in_err-sum_to-clause-fails c = λ e sums.
    let row = c.row-item.result in
    let i = c.loop-row.row-index in
    let value = c.deref-row-items.ensures.value in
    let (y, is, same) = err_from_is_err_and c.from_residual.result c.from_residual.ensures.1 in
    c.in_err-sum_to.ensures.fails (cc) (subst (λ (l : List Row). IsSum (points l) (point_of row.numbers)) (sym c.deref.ensures.value)
    (not_sums (points c.args.k.now.rows.items) c.args.self.now.rows.items i row (subst (λ (l : List Counts). i < length l) value c.loop-row-test.true)
    (subst (λ (l : List Counts). row ≡ get_or l i row) value c.row-item.is) sums))

pub loop-row-preserved : goal.loop-row-preserved
loop-row-preserved c =
    let row = c.row-item.result in
    let i = c.loop-row.row-index in
    let value = c.deref-row-items.ensures.value in
    let below : i < length c.args.self.now.rows.items = subst (λ (l : List Counts). i < length l) value c.loop-row-test.true in
    let is : row ≡ get_or c.args.self.now.rows.items i row = subst (λ (l : List Counts). row ≡ get_or l i row) value c.row-item.is in
    let rows : List Point = points c.args.k.now.rows.items in
    record {
      sums = sums_more rows c.args.self.now.rows.items i row below is c.loop-row.invariant.sums
          (subst (λ (l : List Row). IsSum (points l) (point_of row.numbers)) c.deref.ensures.value c.in_ok-sum_to.ensures.sum);
    }
