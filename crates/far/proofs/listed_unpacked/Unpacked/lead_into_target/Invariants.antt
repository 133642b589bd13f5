use Rattle.std.proofs.Common.{◌+◌, ◌*◌}
use Rattle.far.specs.ListedTexts.{edges_at}
use Rattle.far.specs.inside.ListedUnpacked.{numbers_of_unpacked}
use Rattle.far.specs.inside.Steps.{LeadInto, AreSeen}
use Rattle.far.proofs.listed_unpacked.Unpacked.lead_into_target.Given as goal

abbrev pub invariant-loop-i : goal.invariant-loop-i
invariant-loop-i l = LeadInto (numbers_of_unpacked l.self) l.set l.s (edges_at (numbers_of_unpacked l.self) (l.to * l.self.states + l.f) l.r) l.i × AreSeen (numbers_of_unpacked l.self) l.f l.r l.s l.seen
