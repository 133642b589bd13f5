use Rattle.std.proofs.Common.{◌≡◌, ◌+◌, ◌∙◌, subst, arith}
use Rattle.law_turing.specs.Terms.{Tape}
use Rattle.run.specs.Terms.{TakesStep}
use Rattle.cmd_show.proofs.PictureLaws.{Reaches, took, visited_step}
use Rattle.cmd_show.proofs.visits.visit.Goals as goal

-- a step more, and the cell of its head
pub steps-preserved : goal.steps-preserved
steps-preserved c =
    let step : TakesStep c.steps.runner c.step.new.self = took c.steps.runner c.step.new.self c.in_ok-step.step c.in_ok-step.ensures.ok c.in-Went.is in
    let reaches : Reaches c.steps.cells c.reach.new.self c.step.new.self.config.tape.head =
    subst (λ (t : Tape). Reaches c.steps.cells c.reach.new.self t.head) c.tape.ensures (record {
      first_new = c.reach.ensures.first_new;
      first_same = c.reach.ensures.first_same;
      last_new = c.reach.ensures.last_new;
      last_same = c.reach.ensures.last_same;
    })
    in
    let more : c.step.new.self.steps ≡ c.steps.runner.steps + 1 = step.steps in
    let here = c.steps-in-steps.ensures.steps in
    let less = c.steps-test.true in
    let low = c.steps.invariant.low in
    record {
      table = step.table ∙ c.steps.invariant.table;
      low = omega arith;
      high = omega arith;
      visited = λ first v. visited_step c.steps.runner c.step.new.self first c.steps.cells c.reach.new.self step c.step.ensures.stands reaches (c.steps.invariant.visited first v);
    }
