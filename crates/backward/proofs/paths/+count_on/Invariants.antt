use Rattle.std.proofs.Common.{◌≡◌, ◌+◌, ◌-◌, ◌*◌, ◌<◌, ◌≤◌, length, get_or, set, Some}
use Rattle.backward.specs.inside.{known_about, target_at}
use Rattle.backward.proofs.Counting.{CountsPart}
use Rattle.backward.proofs.paths.+count_on.Given as goal

abbrev pub decreases-count_on : goal.decreases-count_on
decreases-count_on l = length l.counts.now - l.depth

-- the paths by the pairs before this place are counted, that at it leads here, and the cells are as they were
abbrev pub invariant-places : goal.invariant-places
invariant-places l = record {
  cells : l.cells ≡ l.fn.cells;
  high : l.place ≤ 2 * l.chains.states;
  leads : l.place < 2 * l.chains.states → target_at l.chains l.place ≡ Some l.state.0;
  counts : CountsPart l.chains l.depth (known_about l.fn.cells l.state.0 l.head) l.place (set l.fn.counts l.depth (get_or l.fn.counts l.depth 0 + 1)) l.counts;
}

abbrev pub decreases-places : goal.decreases-places
decreases-places l = 2 * l.chains.states - l.place
