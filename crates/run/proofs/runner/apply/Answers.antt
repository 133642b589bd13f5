use Rattle.std.proofs.Common.{rules}
use Rattle.run.proofs.runner.apply.Goals as goal

-- answered by name, so that nothing is offered where an edit makes it false
pub returns-in-L-clause-ok : goal.returns-in-L-clause-ok
returns-in-L-clause-ok c = search rules steps 100000
