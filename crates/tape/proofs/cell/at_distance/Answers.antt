use Rattle.std.proofs.Common.{rules}
use Rattle.tape.proofs.cell.at_distance.Goals as goal

-- answered by name, so that nothing is offered where an edit makes it false
pub returns-then-distance-side-clause-blank : goal.returns-then-distance-side-clause-blank
returns-then-distance-side-clause-blank c = search rules steps 100000
