use Rattle.std.proofs.Common.{◌≤◌}
use Rattle.find_search.proofs.loop_finder.LoopFinder.repetition.Given as goal

-- no more repeat than there are
abbrev pub invariant-loop-period : goal.invariant-loop-period
invariant-loop-period l = l.longest ≤ l.time
