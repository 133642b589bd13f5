use Rattle.std.proofs.Common.{◌-◌, length}
use Rattle.far.proofs.ListedEdges.{IsMerged}
use Rattle.far.proofs.listed_fits.is_part_of_near.Given as goal

abbrev pub decreases-items : goal.decreases-items
decreases-items l = length l.b - l.j

abbrev pub invariant-items : goal.invariant-items
invariant-items l = IsMerged l.a l.b l.i l.j
