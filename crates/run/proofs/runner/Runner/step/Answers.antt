use Rattle.std.proofs.Common.{◌<◌, sym, ◌∙◌, refl, subst}
use Rattle.machine_text.specs.Terms.{entry_of}
use Rattle.run.specs.Limits.{run_step_limit}
use Rattle.run.specs.Steps.{RunState, OnRun}
use Rattle.run.proofs.Standings.{head_within, stands_next, halts_here, no_step, step_is}
use Rattle.run.proofs.runner.Runner.step.Goals as goal

pub apply-requires : goal.apply-requires
apply-requires c = head_within _ c.self.invariant

-- on a pair without an entry the run halts with the next step
pub returns-in_default-clause-ok : goal.returns-in_default-clause-ok
returns-in_default-clause-ok c =
    (refl, rw (← c.self.view_is) (halts_here _ c.self.invariant (no_step (entry_of c.self.inside.table) (record { state = c.self.inside.state.0; tape = c.self.inside.tape }) c.read.result c.read.ensures (sym c.get.ensures.entry ∙ c.in_default.is))))

pub returns-in_default-clause-stands : goal.returns-in_default-clause-stands
returns-in_default-clause-stands c = subst OnRun c.self.view_is c.self.invariant

-- a step that was carried out leads to the next time
pub invariant_of-self-2 : goal.invariant_of-self-2
invariant_of-self-2 c =
    let room = subst (λ (r : RunState). r.steps < run_step_limit) (sym c.self.view_is) c.requires in
    stands_next _ _ c.self.invariant room (step_is (entry_of c.self.inside.table) (record { state = c.self.inside.state.0; tape = c.self.inside.tape }) c.read.result c.in-Some.entry c.apply.new.tape c.read.ensures (sym c.get.ensures.entry ∙ c.in-Some.is) c.in_ok-apply.ensures.ok)

pub returns-clause-stands : goal.returns-clause-stands
returns-clause-stands c = invariant_of-self-2 c
