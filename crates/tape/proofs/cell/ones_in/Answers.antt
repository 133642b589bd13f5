use Rattle.std.proofs.Common.{sym, arith}
use Rattle.std.proofs.lemmas.Nat.{ones-le}
use Rattle.tape.proofs.PackedCells.{word_ones-bits}
use Rattle.tape.proofs.cell.ones_in.Goals as goal

pub returns-clause-ones : goal.returns-clause-ones
returns-clause-ones c = sym (word_ones-bits c.args.word (omega (arith, c.ranges.word)))

pub returns-clause-few : goal.returns-clause-few
returns-clause-few c = ones-le 64 c.args.word (omega (arith, c.ranges.word))
