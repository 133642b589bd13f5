use Rattle.std.proofs.lemmas.Grind.{elements}
use Rattle.std.proofs.Common.{arith}
use Rattle.far.proofs.unpacked.Unpacked.fits_entry.Goals as goal

-- answered by name, so that nothing is offered where an edit makes it false
pub returns : goal.returns
returns c = grind (arith, elements)
