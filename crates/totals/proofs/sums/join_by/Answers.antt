use Rattle.std.proofs.Common.{rules}
use Rattle.totals.proofs.sums.join_by.Goals as goal

-- answered by name, so that nothing is offered where an edit makes it false
pub returns-then-best-best_of_more-2 : goal.returns-then-best-best_of_more-2
returns-then-best-best_of_more-2 c = search rules steps 1000000
