use Rattle.std.proofs.Common.{rules}
use Rattle.loops.proofs.cycles.CycleWatch.has_come_back.Goals as goal

-- answered by name, so that nothing is offered where an edit makes it false
pub returns-then-spend-clause-same : goal.returns-then-spend-clause-same
returns-then-spend-clause-same c = search rules steps 100000
