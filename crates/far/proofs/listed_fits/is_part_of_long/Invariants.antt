use Rattle.far.specs.inside.Steps.{IsPartTo}
use Rattle.far.proofs.listed_fits.is_part_of_long.Given as goal

abbrev pub invariant-loop-i : goal.invariant-loop-i
invariant-loop-i l = IsPartTo l.a l.b l.i
