use Rattle.std.specs.Vec.Iter.{into_iter_items}
use Rattle.totals.proofs.ToldRecords.{board_totals}
use Rattle.totals.proofs.sums.Sums.of.Goals as goal

pub returns : goal.returns
returns c = rw (c.in_ok-champions-2.ensures, c.in_ok-ones_champions.ensures, c.in_ok-holdouts.ensures)
    (board_totals c.args.board.now c.tally-tally.result (into_iter_items c.in_ok-champions.champions) (into_iter_items c.in_ok-champions.ones_champions) (into_iter_items c.in_ok-champions.holdouts)
    c.tally-tally.ensures c.in_ok-champions.ensures.champions c.in_ok-champions.ensures.ones_champions c.in_ok-champions.ensures.holdouts)
