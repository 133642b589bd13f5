use Rattle.std.proofs.Common.{◌-◌, ◌≤◌, length}
use Rattle.find_search.proofs.loop_finder.repeating.Given as goal

abbrev pub invariant-moments : goal.invariant-moments
invariant-moments l = (l.period ≤ l.count) × (l.count ≤ length l.moments)

abbrev pub decreases-moments : goal.decreases-moments
decreases-moments l = length l.moments - l.count
