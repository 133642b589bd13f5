use Rattle.std.proofs.Common.{◌*◌}
use Rattle.machine_text.proofs.Reading.{AreRead}
use Rattle.machine_text.proofs.grammar.codes_named.Given as goal

-- the rows before this one are read, and no place of them is faulty
abbrev pub invariant-loop-row : goal.invariant-loop-row
invariant-loop-row l = AreRead l.states l.text (2 * l.row) l.codes
