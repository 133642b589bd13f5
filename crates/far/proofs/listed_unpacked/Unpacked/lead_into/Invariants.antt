use Rattle.far.specs.inside.Steps.{LeadInto}
use Rattle.far.specs.inside.ListedUnpacked.{numbers_of_unpacked}
use Rattle.far.proofs.listed_unpacked.Unpacked.lead_into.Given as goal

abbrev pub invariant-loop-i : goal.invariant-loop-i
invariant-loop-i l = LeadInto (numbers_of_unpacked l.self) l.set l.s l.into l.i
