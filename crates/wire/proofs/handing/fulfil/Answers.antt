use Rattle.std.proofs.Common.{rules}
use Rattle.wire.proofs.handing.fulfil.Goals as goal

-- answered by name, so that nothing is offered where an edit makes it false
pub returns-then-is_err-2-clause-ok : goal.returns-then-is_err-2-clause-ok
returns-then-is_err-2-clause-ok g c = search rules steps 100000

pub returns-then-is_err-clause-ledger : goal.returns-then-is_err-clause-ledger
returns-then-is_err-clause-ledger g c = search rules steps 1000000
