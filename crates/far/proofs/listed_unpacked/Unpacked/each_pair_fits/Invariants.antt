use Rattle.machine_text.specs.Terms.{entry_of}
use Rattle.far.specs.inside.ListedUnpacked.{numbers_of_unpacked}
use Rattle.far.specs.inside.Steps.{EachPairFits}
use Rattle.far.proofs.listed_unpacked.Unpacked.each_pair_fits.Given as goal

abbrev pub invariant-loop-j : goal.invariant-loop-j
invariant-loop-j l = EachPairFits (entry_of l.t) (numbers_of_unpacked l.self) l.j
