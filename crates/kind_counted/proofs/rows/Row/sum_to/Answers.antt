use Rattle.std.proofs.Common.{true, pos, ◌<ℤ◌, arith}
use Rattle.std.proofs.lemmas.Int.{ints}
use Rattle.std.proofs.lemmas.Result.{err_from_is_err_and}
use Rattle.law_machines.specs.Terms.{Point}
use Rattle.kind_counted.specs.Numbers.{point_of}
use Rattle.kind_counted.proofs.Echelon.{reduced_more, not_reduced}
use Rattle.kind_counted.proofs.rows.Row.sum_to.Goals as goal

pub returns-in_err-rest-clause-fails : goal.returns-in_err-rest-clause-fails
returns-in_err-rest-clause-fails c = λ e sum.
    let row = c.row-item.result in
    let (y, is, same) = err_from_is_err_and c.from_residual.result c.from_residual.ensures.1 in
    not_reduced c.args.rows.now (point_of c.args.counts.now.numbers) c.loop-row.row-index row (point_of c.loop-row.rest.numbers) c.requires c.loop-row-test.true c.row-item.is
    c.loop-row.invariant.reduced (c.in_err-rest.ensures.fails (cc)) sum

pub loop-row-preserved : goal.loop-row-preserved
loop-row-preserved c =
    let row = c.row-item.result in
    let i = c.loop-row.row-index in
    let v : Point = point_of c.loop-row.rest.numbers in
    let positive : pos 0 <ℤ point_of row.counts.numbers row.pivot = row.positive in
    record {
      reduced = reduced_more c.args.rows.now (point_of c.args.counts.now.numbers) i row v c.requires c.loop-row-test.true c.row-item.is
          c.loop-row.invariant.reduced (point_of c.in_ok-rest.rest.numbers) (omega (arith, ints)) c.in_ok-rest.ensures.cleared;
    }
