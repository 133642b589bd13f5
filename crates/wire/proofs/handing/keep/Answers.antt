use Rattle.std.proofs.Common.{rules}
use Rattle.wire.proofs.handing.keep.Goals as goal

-- answered by name, so that nothing is offered where an edit makes it false
pub returns-clause-ok : goal.returns-clause-ok
returns-clause-ok g c = search rules steps 1000000

pub returns-clause-err : goal.returns-clause-err
returns-clause-err g c = search rules steps 1000000
