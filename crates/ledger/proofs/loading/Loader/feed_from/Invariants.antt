use Rattle.ledger.proofs.StageLaws.{IsGoingOn}
use Rattle.ledger.proofs.loading.Loader.feed_from.Given as goal

-- what was read was fed, and the rest of the limit is left
abbrev pub invariant-pieces : goal.invariant-pieces
invariant-pieces g l = IsGoingOn l.fn.self (g.R.Read.remaining l.fn.from) l.limit l.self (g.R.Read.remaining l.from) l.left

abbrev pub decreases-pieces : goal.decreases-pieces
decreases-pieces g l = l.left
