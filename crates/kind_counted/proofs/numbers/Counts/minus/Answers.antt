use Rattle.std.proofs.Common.{◌-ℤ◌, ap, ◌∙◌}
use Rattle.law_machines.specs.Terms.{Point}
use Rattle.kind_counted.specs.Numbers.{point_of}
use Rattle.kind_counted.proofs.Sums.{one-*ℤ}
use Rattle.kind_counted.proofs.numbers.Counts.minus.Goals as goal

pub returns-in-Some-clause-minus : goal.returns-in-Some-clause-minus
returns-in-Some-clause-minus c = λ x.
    ap (λ (v : Point). v x) c.in-Some.ensures.less ∙ ap (λ n. point_of c.args.self.now.numbers x -ℤ n) (one-*ℤ (point_of c.args.other.now.numbers x))
