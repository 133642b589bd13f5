use Rattle.std.proofs.Common.{Some, ap, sym, ◌∙◌, arith, rules}
use Rattle.machine_text.specs.Terms.{entry_of}
use Rattle.law_turing.specs.Terms.{score_at}
use Rattle.run.proofs.Standings.{found_none, score_on}
use Rattle.run.proofs.halting.HaltFinder.search.Goals as goal

pub returns-in-Went-clause-none : goal.returns-in-Went-clause-none
returns-in-Went-clause-none c k early halts =
    found_none c.min-limit.result c.args.t.now c.in_ok-runner.runner c.run_far.new.self c.in_ok-step.step c.in_ok-runner.ensures c.in_ok-step.ensures.ok c.in-Went.is k (omega (arith, c.min.ensures, c.min-limit.ensures)) halts

-- answered by name, so that nothing is offered where an edit makes it false
pub returns-in-Halts-clause-within : goal.returns-in-Halts-clause-within
returns-in-Halts-clause-within c = search rules steps 1000000

pub returns-in-Halts-clause-none : goal.returns-in-Halts-clause-none
returns-in-Halts-clause-none c = search rules steps 100000

pub returns-in-Halts-clause-score : goal.returns-in-Halts-clause-score
returns-in-Halts-clause-score c =
    c.of.ensures.ones ∙ ap Some (c.into_score.ensures ∙ score_on _ c.in-Halts.count c.args.t.now c.in_ok-runner.runner c.run_far.new.self c.in_ok-step.step c.in_ok-runner.ensures c.in_ok-step.ensures.ok c.in-Halts.is ∙ ap (score_at (entry_of c.args.t.now)) (sym c.of.ensures.steps))
