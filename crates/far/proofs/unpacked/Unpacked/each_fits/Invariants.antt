use Rattle.machine_text.specs.Terms.{entry_of}
use Rattle.far.specs.inside.Unpacked.{unpacked_of}
use Rattle.far.specs.inside.Steps.{EachFits}
use Rattle.far.proofs.unpacked.Unpacked.each_fits.Given as goal

abbrev pub invariant-loop-j : goal.invariant-loop-j
invariant-loop-j l = EachFits (entry_of l.t) (unpacked_of l.self) l.j
