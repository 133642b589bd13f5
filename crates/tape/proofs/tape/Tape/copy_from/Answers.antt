use Rattle.std.proofs.Common.{rules}
use Rattle.tape.proofs.PackedCells.{stored-blank, on_err}
use Rattle.tape.proofs.tape.Tape.copy_from.Goals as goal

pub returns-else-is_ok-clause-err : goal.returns-else-is_ok-clause-err
returns-else-is_ok-clause-err c = on_err c.copy_words-copied.result (rw (c.clear.ensures.items, c.clear-else-is_ok.ensures.items) stored-blank)

-- answered by name, so that nothing is offered where an edit makes it false
pub returns-then-is_ok-clause-ok : goal.returns-then-is_ok-clause-ok
returns-then-is_ok-clause-ok c = search rules steps 1000000
