use Rattle.std.proofs.Common.{ap, subst, ◌∙◌, IfOk, arith}
use Rattle.machine_text.specs.Terms.{Packed, entry_of}
use Rattle.run.specs.Terms.{RunState}
use Rattle.cmd_explain.specs.Explained.{IsSeen}
use Rattle.cmd_explain.proofs.Sights.{ran_on, ran_out}
use Rattle.cmd_explain.proofs.seen.see.Goals as goal

pub halted-requires-clause-halts : goal.halted-requires-clause-halts
halted-requires-clause-halts c = (ran_out _ c.in-Halts.count c.in_ok-runner.runner c.visit_to.new.runner c.in_ok-step.step c.in_ok-step.ensures.ok c.in-Halts.is).halts

pub halted-requires-clause-last : goal.halted-requires-clause-last
halted-requires-clause-last c = (ran_out _ c.in-Halts.count c.in_ok-runner.runner c.visit_to.new.runner c.in_ok-step.step c.in_ok-step.ensures.ok c.in-Halts.is).last

pub see_on-requires-clause-onward : goal.see_on-requires-clause-onward
see_on-requires-clause-onward c =
    let early = (ran_on _ c.in_ok-runner.runner c.visit_to.new.runner c.in_ok-step.step c.in_ok-step.ensures.ok c.in-Went.is).1 in
    omega arith

pub returns-in-Halts : goal.returns-in-Halts
returns-in-Halts c =
    let over = ran_out _ c.in-Halts.count c.in_ok-runner.runner c.visit_to.new.runner c.in_ok-step.step c.in_ok-step.ensures.ok c.in-Halts.is in
    let within = over.within in
    subst (λ (p : Packed). IsSeen (entry_of p) c.args.steps c.halted.result) (over.table ∙ ap (λ (r : RunState). r.table) c.in_ok-runner.ensures) (c.halted.ensures c.args.steps (omega arith))

pub returns-in-Went : goal.returns-in-Went
returns-in-Went c =
    let went = ran_on _ c.in_ok-runner.runner c.visit_to.new.runner c.in_ok-step.step c.in_ok-step.ensures.ok c.in-Went.is in
    subst (λ (p : Packed). IfOk c.see_on.result (λ seen. IsSeen (entry_of p) c.args.steps seen)) (went.0.table ∙ ap (λ (r : RunState). r.table) c.in_ok-runner.ensures) c.see_on.ensures
