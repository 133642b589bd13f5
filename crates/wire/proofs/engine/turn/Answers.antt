use Rattle.std.proofs.Common.{rules}
use Rattle.wire.proofs.engine.turn.Goals as goal

-- answered by name, so that nothing is offered where an edit makes it false
pub returns-else-count-eq0-clause-turned : goal.returns-else-count-eq0-clause-turned
returns-else-count-eq0-clause-turned g c = search rules

pub returns-else-count-eq0-clause-end : goal.returns-else-count-eq0-clause-end
returns-else-count-eq0-clause-end g c = search rules steps 1000000

pub returns-then-count-eq0-clause-turned : goal.returns-then-count-eq0-clause-turned
returns-then-count-eq0-clause-turned g c = search rules steps 1000000
