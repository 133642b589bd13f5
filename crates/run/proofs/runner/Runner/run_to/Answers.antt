use Rattle.std.proofs.Common.{rules}
use Rattle.run.proofs.runner.Runner.run_to.Goals as goal

-- answered by name, so that nothing is offered where an edit makes it false
pub returns-in_err-step-clause-limit : goal.returns-in_err-step-clause-limit
returns-in_err-step-clause-limit c = search rules steps 100000

pub returns-in-Halts-clause-limit : goal.returns-in-Halts-clause-limit
returns-in-Halts-clause-limit c = search rules steps 100000

pub returns-clause-limit : goal.returns-clause-limit
returns-clause-limit c = search rules steps 100000

pub returns-in-Halts-clause-ok : goal.returns-in-Halts-clause-ok
returns-in-Halts-clause-ok c = search rules steps 1000000
