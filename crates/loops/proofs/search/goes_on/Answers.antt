use Rattle.loops.proofs.CycleLaws.{halts_now}
use Rattle.loops.proofs.search.goes_on.Goals as goal

pub returns-in-Halts : goal.returns-in-Halts
returns-in-Halts c =
    halts_now c.args.runner.now c.step.new.self c.in_ok-step.field-0 c.in-Halts.count c.in_ok-step.ensures.ok c.in-Halts.is
