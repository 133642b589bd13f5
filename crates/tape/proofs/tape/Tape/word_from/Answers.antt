use Rattle.tape.proofs.Halves.{Holds-joined}
use Rattle.tape.proofs.tape.Tape.word_from.Goals as goal

pub returns-else-bit-eq0 : goal.returns-else-bit-eq0
returns-else-bit-eq0 c = Holds-joined c.args.self.now.ones c.args.number c.word_at.result c.word_at-else-bit-eq0.result c.word_at.type_inv c.if-bit-eq0.false c.word_at.ensures c.word_at-else-bit-eq0.ensures
