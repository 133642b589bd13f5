use Rattle.std.proofs.Common.{refl, rules}
use Rattle.loops.proofs.cycles.CycleEvidence.check.Goals as goal

pub returns-then-branch-clause-ok : goal.returns-then-branch-clause-ok
returns-then-branch-clause-ok c = (refl, search rules, c.in_ok-has_cycle.ensures.0 c.if-branch.true, λ wide. wide)

-- answered by name, so that nothing is offered where an edit makes it false
pub has_cycle-requires-clause-order : goal.has_cycle-requires-clause-order
has_cycle-requires-clause-order c = search rules steps 100000
