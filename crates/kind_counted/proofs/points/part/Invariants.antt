use Rattle.std.proofs.Common.{◌<◌, List, ◌∷◌}
use Rattle.std.specs.Int.RustNames.{unsigned_abs}
use Rattle.law_machines.specs.Terms.{Point}
use Rattle.kind_counted.specs.Numbers.{point_of}
use Rattle.kind_counted.specs.inside.Judging.{SameSums}
use Rattle.kind_counted.proofs.points.part.Given as goal

abbrev pub invariant-parting : goal.invariant-parting
invariant-parting l = record {
  some : 0 < unsigned_abs (point_of l.carrier.numbers l.place);
  same : (rows : List Point) → SameSums (point_of l.fn.first.numbers ∷ (point_of l.fn.second.numbers ∷ rows)) (point_of l.carrier.numbers ∷ (point_of l.other.numbers ∷ rows));
}

abbrev pub decreases-parting : goal.decreases-parting
decreases-parting l = unsigned_abs (point_of l.other.numbers l.place)
