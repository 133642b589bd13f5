use Rattle.std.proofs.Common.{◌≡◌, rules, arith}
use Rattle.std.proofs.lemmas.Bool.Decides.{nat_tests}
use Rattle.run.specs.declared.runner.Step.TheVariants.{Halts}
use Rattle.run.proofs.Standings.{found_not, halts_on, score_on}
use Rattle.run.proofs.halting.run_out.Goals as goal

pub returns-then-ne-clause-fails : goal.returns-then-ne-clause-fails
returns-then-ne-clause-fails c is = found_not c.args.steps c.args.t.now c.in_ok-runner.runner c.run_far.new.self c.in_ok-step.step c.in_ok-runner.ensures c.in_ok-step.ensures.ok (λ same. grind (arith, nat_tests, same, c.if-ne.true, c.ne.ensures))

pub returns-clause-pair : goal.returns-clause-pair
returns-clause-pair c =
    let is : c.in_ok-step.step ≡ Halts c.args.steps = search rules in
    rw (c.state.ensures, c.read.ensures, c.tape.ensures) (halts_on c.args.steps c.args.t.now c.in_ok-runner.runner c.run_far.new.self c.in_ok-step.step c.in_ok-runner.ensures c.in_ok-step.ensures.ok is)

pub returns-clause-score : goal.returns-clause-score
returns-clause-score c =
    let is : c.in_ok-step.step ≡ Halts c.args.steps = search rules in
    rw c.into_score.ensures (score_on c.args.steps c.args.steps c.args.t.now c.in_ok-runner.runner c.run_far.new.self c.in_ok-step.step c.in_ok-runner.ensures c.in_ok-step.ensures.ok is)
