use Rattle.std.proofs.Common.{rules}
use Rattle.loops.proofs.snapshot.Snapshot.is_same.Goals as goal

-- answered by name, so that nothing is offered where an edit makes it false
pub returns-then-eq : goal.returns-then-eq
returns-then-eq c = search rules steps 1000000
