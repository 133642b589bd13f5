use Rattle.std.specs.Int.{w64}
use Rattle.std.specs.Int.RustNames.{FitsSigned}
use Rattle.std.proofs.lemmas.Int.{to_z-of_z}
use Rattle.std.proofs.lemmas.Bool.{eqb-true, eq-eqb}
use Rattle.tape.proofs.Halves.{WordWithin-bits}
use Rattle.tape.proofs.tape.Tape.word_is_in.Goals as goal

pub returns : goal.returns
returns c =
    let fits_from : FitsSigned w64 c.args.from = c.ranges.from in
    let fits_shift : FitsSigned w64 c.args.shift = c.ranges.shift in
    let mask = simp to_z-of_z at c.beyond.ensures in
    let second = simp to_z-of_z at c.word_shifted.ensures in
    WordWithin-bits c.args.side c.args.from c.args.shift c.args.block c.word_at.result c.beyond.result c.word_shifted.result c.args.self.now.ones c.args.other.now.ones _
    c.word_at.type_inv c.beyond.type_inv c.word_shifted.type_inv c.word_at.ensures mask second (eqb-true _ _, eq-eqb _ _)
