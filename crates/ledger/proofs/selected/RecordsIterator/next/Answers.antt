use Rattle.std.proofs.Common.{rules}
use Rattle.ledger.proofs.selected.RecordsIterator.next.Goals as goal

-- answered by name, so that nothing is offered where an edit makes it false
pub returns-in_err-table-clause-steps : goal.returns-in_err-table-clause-steps
returns-in_err-table-clause-steps c = search rules steps 1000000

pub returns-clause-steps : goal.returns-clause-steps
returns-clause-steps c = search rules steps 1000000
