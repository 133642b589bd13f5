use Rattle.std.proofs.Common.{◌≡◌, ℕ, ◌+◌, ◌-◌, ◌^◌, ◌≤◌, ◌<◌, min, length}
use Rattle.std.specs.Prelude.{slice_index}
use Rattle.cmd_page.proofs.census.add_up.Given as goal

-- the numbers before the place are added, and the others are as they were
abbrev pub invariant-loop-k : goal.invariant-loop-k
invariant-loop-k l = record {
  len : length l.counts ≡ length l.fn.counts;
  done : (j : ℕ) → j < l.k → slice_index l.counts j ≡ min (slice_index l.fn.counts j + slice_index l.more j) (2 ^ 64 - 1);
  left : (j : ℕ) → l.k ≤ j → slice_index l.counts j ≡ slice_index l.fn.counts j;
}
