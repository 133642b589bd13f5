use Rattle.std.proofs.Common.{rules}
use Rattle.run.proofs.runner.Runner.steps.Goals as goal

-- answered by name, so that nothing is offered where an edit makes it false
pub returns-clause-steps : goal.returns-clause-steps
returns-clause-steps c = search rules steps 100000
