use Rattle.std.proofs.Common.{◌<◌, length}
use Rattle.find_search.proofs.loop_finder.farthest.Given as goal

abbrev pub invariant-loop-place : goal.invariant-loop-place
invariant-loop-place l = l.best < length l.moments
