use Rattle.std.proofs.Common.{arith}
use Rattle.std.proofs.lemmas.Bool.Decides.{nat_tests}
use Rattle.backward.proofs.PathLaws.{says_done}
use Rattle.backward.proofs.backward.does_steps.Goals as goal

pub returns : goal.returns
returns c =
    says_done c.args.t.now c.args.steps c.in_ok-runner.runner c.run_to.new.self c.in_ok-step.step c.eq.result c.in_ok-runner.ensures c.in_ok-step.ensures.ok
    (λ done. grind (arith, nat_tests, done, c.eq.ensures)) (λ not_done went. grind (arith, nat_tests, not_done, went, c.eq.ensures))
