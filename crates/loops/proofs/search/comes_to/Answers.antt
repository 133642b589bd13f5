use Rattle.loops.proofs.CycleLaws.{halts_before}
use Rattle.loops.proofs.search.comes_to.Goals as goal

pub returns-in-Halts : goal.returns-in-Halts
returns-in-Halts c =
    halts_before c.args.k c.args.runner.now c.run_to.new.self c.in_ok-run_to.field-0 c.in-Halts.count c.in_ok-run_to.ensures.ok c.in-Halts.is
