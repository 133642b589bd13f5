use Rattle.std.proofs.Common.{◌≡◌}
use Rattle.backward.proofs.backward.BackwardFinder.search_narrow.Given as goal

-- the finder goes back as far as before
abbrev pub invariant-loop-depth : goal.invariant-loop-depth
invariant-loop-depth l = l.self.depth ≡ l.initial.self.depth
