use Rattle.std.proofs.Common.{rules}
use Rattle.totals.proofs.sums.status_by.Goals as goal

-- answered by name, so that nothing is offered where an edit makes it false
pub returns : goal.returns
returns c = search rules steps 1000000
