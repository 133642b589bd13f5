use Rattle.std.proofs.Common.{◌≡◌, ◌≢◌, ℕ, get_or, None}
use Rattle.backward.proofs.PathLaws.{WidthsPart}
use Rattle.backward.proofs.paths.count_all.Given as goal

-- no cell but the middle one is known, and the paths from the pairs at the first places are counted
abbrev pub invariant-loop-place : goal.invariant-loop-place
invariant-loop-place l = record { unknown : (x : ℕ) → x ≢ l.head → get_or l.cells x None ≡ None; counts : WidthsPart l.chains l.place l.counts }
