use Rattle.tape.proofs.WordBits.{up_to_bits}
use Rattle.tape.proofs.cell.up_to.Goals as goal

pub returns : goal.returns
returns c = λ i inside. up_to_bits c.args.bit i c.requires inside
