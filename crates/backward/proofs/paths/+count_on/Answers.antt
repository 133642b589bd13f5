use Rattle.std.proofs.Common.{◌≡◌, ◌*◌, refl, arith}
use Rattle.std.proofs.lemmas.Result.{err_from_is_err_and}
use Rattle.backward.proofs.Counting.{part_none, part_last, part_all, part_passed, part_first, part_more, exceeds_here, exceeds_further, at_place, cells_again}
use Rattle.backward.proofs.paths.+count_on.Goals as goal

pub returns-then-counts-depth-ge-MAX_PATHS-clause-wide : goal.returns-then-counts-depth-ge-MAX_PATHS-clause-wide
returns-then-counts-depth-ge-MAX_PATHS-clause-wide t c = exceeds_here _ _ _ _ c.requires.depth (omega arith)

pub returns-then-depth-counts-clause-counts : goal.returns-then-depth-counts-clause-counts
returns-then-depth-counts-clause-counts t c = part_all _ _ _ _ _ _ refl c.requires.depth (omega arith) (part_last _ _ _ _ _ (omega arith))

pub places-init : goal.places-init
places-init t c = record {
  cells = refl;
  high = c.first-place.ensures.high;
  leads = c.first-place.ensures.leads;
  counts = part_first _ _ _ _ _ _ _ _ _ c.first-place.ensures (part_none _ _ _ _);
}

-- a pair that can't come before is passed over
pub places-preserved-in_default : goal.places-preserved-in_default
places-preserved-in_default t c =
    let kept = c.places.invariant in
    let next = c.next-place.ensures _ (kept.leads (omega (arith, c.places-test.true, c.places-in-places.ensures.places))) in
    record {
      cells = kept.cells;
      high = next.high;
      leads = next.leads;
      counts = part_first _ _ _ _ _ _ _ _ _ next (part_passed _ _ _ _ _ _ (at_place _ _ _ _ _ _ _ _ _ _ c.table.ensures kept.cells c.pair_at-pair.ensures.state c.pair_at-pair.ensures.symbol c.in_default.ensures.none) kept.counts);
    }

-- too many paths further back are too many here
pub returns-in_err-count_on-clause-wide : goal.returns-in_err-count_on-clause-wide
returns-in_err-count_on-clause-wide t c =
    let p = err_from_is_err_and c.from_residual.result c.from_residual.ensures.1 in
    rw p.1 (exceeds_further _ _ _ _ _ _ _ (at_place _ _ _ _ _ _ _ _ _ _ c.table.ensures c.places.invariant.cells c.pair_at-pair.ensures.state c.pair_at-pair.ensures.symbol c.in-Some.ensures.some) (omega (arith, c.places-test.true, c.places-in-places.ensures.places)) c.places.invariant.counts c.in_err-count_on.ensures.wide)

pub places-preserved : goal.places-preserved
places-preserved t c =
    let kept = c.places.invariant in
    let next = c.next-place.ensures _ (kept.leads (omega (arith, c.places-test.true, c.places-in-places.ensures.places))) in
    record {
      cells = cells_again _ _ _ _ _ kept.cells c.in_ok-count_on.ensures.cells;
      high = next.high;
      leads = next.leads;
      counts = part_first _ _ _ _ _ _ _ _ _ next (part_more _ _ _ _ _ _ _ _ (at_place _ _ _ _ _ _ _ _ _ _ c.table.ensures kept.cells c.pair_at-pair.ensures.state c.pair_at-pair.ensures.symbol c.in-Some.ensures.some) kept.counts c.count_on.auto.counts c.in_ok-count_on.ensures.counts);
    }

pub returns-clause-counts : goal.returns-clause-counts
returns-clause-counts t c =
    part_all _ _ _ _ _ _ (let gone : c.places.place ≡ 2 * c.args.chains.now.states = omega (arith, c.places-in-places.ensures.places, c.places-test.false, c.places.invariant.high) in gone) c.requires.depth (omega arith) c.places.invariant.counts
