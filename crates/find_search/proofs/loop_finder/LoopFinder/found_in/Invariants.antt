use Rattle.std.proofs.Common.{◌-◌, ◌≤◌, length}
use Rattle.find_search.proofs.loop_finder.LoopFinder.found_in.Given as goal

-- the runner stands no later than the next time at which it is looked for what repeats
abbrev pub invariant-checkpoints : goal.invariant-checkpoints
invariant-checkpoints l = record {
  onward : l.runner.steps ≤ l.checkpoint;
  some : 1 ≤ l.checkpoint;
  limit : l.checkpoint ≤ l.limit;
  room : l.limit ≤ length l.self.moments.items;
}

abbrev pub decreases-checkpoints : goal.decreases-checkpoints
decreases-checkpoints l = l.limit - l.checkpoint
