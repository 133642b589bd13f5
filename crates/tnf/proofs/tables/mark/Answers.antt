use Rattle.std.proofs.Common.{rules}
use Rattle.tnf.proofs.tables.mark.Goals as goal

-- answered by name, so that nothing is offered where an edit makes it false
pub returns-in-Some : goal.returns-in-Some
returns-in-Some c = search rules steps 1000000
