use Rattle.totals.proofs.walk.sorted.Goals as goal

pub returns-clause-sorted : goal.returns-clause-sorted
returns-clause-sorted c = rw c.into_iter.ensures.rest c.in_ok-sort.ensures.sorted
