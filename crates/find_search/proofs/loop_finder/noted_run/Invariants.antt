use Rattle.std.proofs.Common.{◌≡◌, length}
use Rattle.find_search.proofs.loop_finder.noted_run.Given as goal

-- the runner stands at the loop's time, and the room stays
abbrev pub invariant-loop-time : goal.invariant-loop-time
invariant-loop-time l = (l.runner.steps ≡ l.time) × (length l.moments ≡ length l.fn.moments)
