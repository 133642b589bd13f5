use Rattle.std.proofs.Common.{rules}
use Rattle.wire.proofs.engine.begin.Goals as goal

pub returns-in-Ok-clause-ok : goal.returns-in-Ok-clause-ok
returns-in-Ok-clause-ok g c = search rules steps 100000

pub returns-in-Err-clause-partly : goal.returns-in-Err-clause-partly
returns-in-Err-clause-partly g c = search rules steps 100000
