use Rattle.std.proofs.Common.{◌∙◌, sym}
use Rattle.tape.proofs.WordBits.{differ_from-one}
use Rattle.tape.proofs.cell.differing.Goals as goal

pub returns-in-One : goal.returns-in-One
returns-in-One c = differ_from-one c.args.word c.args.bit c.ranges.word.fits (sym c.in-One.is ∙ c.symbol_at.ensures)
