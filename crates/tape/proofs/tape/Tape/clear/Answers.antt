use Rattle.tape.proofs.PackedCells.{stored-blank}
use Rattle.tape.proofs.tape.Tape.clear.Goals as goal

pub returns : goal.returns
returns c = rw (c.clear.ensures.items, c.clear-2.ensures.items) stored-blank
