use Rattle.std.proofs.Common.{rules}
use Rattle.tape.proofs.PackedCells.{stored-blank}
use Rattle.tape.proofs.tape.Tape.new.Goals as goal

pub returns-clause-tape : goal.returns-clause-tape
returns-clause-tape c = rw (c.new.ensures.items, c.new-2.ensures.items) stored-blank

-- answered by name, so that nothing is offered where an edit makes it false
pub returns-clause-limit : goal.returns-clause-limit
returns-clause-limit c = search rules steps 100000
