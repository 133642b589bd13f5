use Rattle.cmd_page.proofs.SummedLedgers.{IsGoingOn}
use Rattle.cmd_page.proofs.sums.sum_of.Given as goal

-- what was read was fed, and the rest of the limit is left
abbrev pub invariant-pieces : goal.invariant-pieces
invariant-pieces g l = IsGoingOn (g.R.Read.remaining l.fn.from) l.limit l.hasher (g.R.Read.remaining l.from) l.left

abbrev pub decreases-pieces : goal.decreases-pieces
decreases-pieces g l = l.left
