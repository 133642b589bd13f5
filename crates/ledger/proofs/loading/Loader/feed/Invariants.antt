use Rattle.std.proofs.Common.{◌≡◌, ℕ, List, ◌++◌, length}
use Rattle.ledger.specs.Loading.{IsFed}
use Rattle.ledger.proofs.loading.Loader.feed.Given as goal

-- the lines before the rest were taken
abbrev pub invariant-loop-line : goal.invariant-loop-line
invariant-loop-line l = (done : List ℕ) × (l.piece ≡ done ++ l.rest) × IsFed l.fn.self done l.self

abbrev pub decreases-loop-line : goal.decreases-loop-line
decreases-loop-line l = length l.rest
