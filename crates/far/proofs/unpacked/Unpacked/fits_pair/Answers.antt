use Rattle.far.specs.inside.Steps.{FitsPair}
use Rattle.machine_text.specs.Terms.{entry_of}
use Rattle.std.proofs.Common.{rules}
use Rattle.far.proofs.unpacked.Unpacked.fits_pair.Goals as goal

-- answered by name, so that nothing is offered where an edit makes it false
pub returns-in-None : goal.returns-in-None
unfolding entry_of FitsPair
returns-in-None c = search rules steps 1000000
