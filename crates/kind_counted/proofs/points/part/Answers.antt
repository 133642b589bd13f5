use Rattle.std.proofs.Common.{◌∷◌, sym, subst}
use Rattle.law_machines.specs.Terms.{Point, less}
use Rattle.kind_counted.specs.Numbers.{point_of}
use Rattle.kind_counted.specs.inside.Judging.{SameSums}
use Rattle.kind_counted.proofs.SettlingLaws.{some_bits}
use Rattle.kind_counted.proofs.Sums.{same_trans, same_less}
use Rattle.kind_counted.proofs.points.part.Goals as goal

pub parting-preserved : goal.parting-preserved
parting-preserved c =
    let first : Point = point_of c.args.first.now.numbers in
    let second : Point = point_of c.args.second.now.numbers in
    let carrier : Point = point_of c.parting.carrier.numbers in
    let other : Point = point_of c.parting.other.numbers in
    let less = c.in_ok-rest.ensures.lessened in
    record {
      some = some_bits (other c.args.place) c.parting-test.true;
      same = λ rows. same_trans (first ∷ (second ∷ rows)) (carrier ∷ (other ∷ rows)) (other ∷ (point_of c.in_ok-rest.rest.numbers ∷ rows)) (c.parting.invariant.same rows)
          (subst (λ (v : Point). SameSums (carrier ∷ (other ∷ rows)) (other ∷ (v ∷ rows))) (sym less.is) (same_less carrier other less.times rows));
    }
