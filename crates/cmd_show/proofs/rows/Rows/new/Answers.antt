use Rattle.std.proofs.Common.{◌≡◌, ap, arith}
use Rattle.run.specs.Terms.{RunState}
use Rattle.cmd_show.proofs.rows.Rows.new.Goals as goal

pub invariant_of-result : goal.invariant_of-result
invariant_of-result c =
    let steps : c.in_ok-runner.runner.steps ≡ 0 = ap (λ (r : RunState). r.steps) c.in_ok-runner.ensures in
    let last = c.requires.last in
    record {
      within = c.requires;
      same = ap (λ (r : RunState). r.table) c.in_ok-runner.ensures;
      stands = c.steps.ensures.stands;
      onward = omega arith;
      count = omega arith;
      near = omega arith;
    }
