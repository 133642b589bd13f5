use Rattle.cmd_page.proofs.SummedLedgers.{IsFeeding}
use Rattle.cmd_page.proofs.sums.feed_all.Given as goal

-- what was read was fed, and the rest of the limit is left
abbrev pub invariant-pieces : goal.invariant-pieces
invariant-pieces g l = IsFeeding l.fn.loader l.fn.hasher (g.R.Read.remaining l.fn.from) l.limit l.loader l.hasher (g.R.Read.remaining l.from) l.left

abbrev pub decreases-pieces : goal.decreases-pieces
decreases-pieces g l = l.left
