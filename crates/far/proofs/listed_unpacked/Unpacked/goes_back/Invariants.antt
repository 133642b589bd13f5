use Rattle.far.specs.inside.ListedUnpacked.{numbers_of_unpacked}
use Rattle.far.specs.inside.Steps.{BackOverEach, AreSeen}
use Rattle.far.proofs.listed_unpacked.Unpacked.goes_back.Given as goal

abbrev pub invariant-loop-k : goal.invariant-loop-k
invariant-loop-k l = BackOverEach (numbers_of_unpacked l.self) l.f l.r l.entry l.moves l.k × AreSeen (numbers_of_unpacked l.self) l.f l.r l.entry.write l.seen
