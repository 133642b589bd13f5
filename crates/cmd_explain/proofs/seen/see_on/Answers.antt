use Rattle.std.proofs.Common.{subst}
use Rattle.machine_text.specs.Terms.{Packed, entry_of}
use Rattle.cmd_explain.specs.Explained.{IsSeen}
use Rattle.cmd_explain.proofs.Sights.{goes_on, ran_out}
use Rattle.cmd_explain.proofs.seen.see_on.Goals as goal

pub halted-requires-clause-halts : goal.halted-requires-clause-halts
halted-requires-clause-halts c = (ran_out _ c.in-Halts.count c.args.runner c.visit_to.new.runner c.in_ok-step.step c.in_ok-step.ensures.ok c.in-Halts.is).halts

pub halted-requires-clause-last : goal.halted-requires-clause-last
halted-requires-clause-last c = (ran_out _ c.in-Halts.count c.args.runner c.visit_to.new.runner c.in_ok-step.step c.in_ok-step.ensures.ok c.in-Halts.is).last

pub returns-in-Halts : goal.returns-in-Halts
returns-in-Halts c =
    let over = ran_out _ c.in-Halts.count c.args.runner c.visit_to.new.runner c.in_ok-step.step c.in_ok-step.ensures.ok c.in-Halts.is in
    subst (λ (p : Packed). IsSeen (entry_of p) c.args.steps c.halted.result) over.table (c.halted.ensures c.args.steps over.within)

pub returns-in-Went : goal.returns-in-Went
returns-in-Went c = goes_on c.args.steps c.args.runner c.visit_to.new.runner c.in_ok-step.step c.in_ok-step.ensures.ok c.in-Went.is
