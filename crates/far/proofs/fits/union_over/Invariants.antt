use Rattle.std.proofs.Common.{◌≤◌}
use Rattle.far.specs.inside.Steps.{IsUnited}
use Rattle.far.proofs.fits.union_over.Given as goal

abbrev pub decreases-members : goal.decreases-members
decreases-members l = l.rest

abbrev pub invariant-members : goal.invariant-members
invariant-members l = record { united : IsUnited l.rows l.set l.r l.from l.rest l.union; within : l.from ≤ l.reach }
