use Rattle.tape.proofs.WordBits.{bit_symbol-set}
use Rattle.tape.proofs.cell.symbol_at.Goals as goal

pub returns-else-word-bit-eq0 : goal.returns-else-word-bit-eq0
returns-else-word-bit-eq0 c = bit_symbol-set c.args.word c.args.bit c.if-word-bit-eq0.false
