use Rattle.std.proofs.Common.{◌≡◌, ℕ, suc, ◌<◌, ◌≤◌, ◌∙◌, ap, subst, arith}
use Rattle.machine_text.specs.Terms.{Packed, entry_of}
use Rattle.machine_text.specs.declared.table.State.{State}
use Rattle.run.specs.Terms.{RunState}
use Rattle.cmd_lines.specs.Listed.{ComesFirstTo, IsNormalForm, StaysBelow, facing_right}
use Rattle.cmd_lines.proofs.ChangedTables.{IsNamed, came_some, came_none, named_first, named_more, named_whole, named_all, normal_alike}
use Rattle.cmd_lines.proofs.Unchanged.{unchanged}
use Rattle.cmd_lines.proofs.normal.normal_form.Goals as goal

pub loop-named-init : goal.loop-named-init
loop-named-init c = record {
  some = omega arith;
  states = c.facing_right-form.ensures.states;
  named = named_first c.min-steps.result (facing_right (entry_of c.args.t.now)) (entry_of c.facing_right-form.result) c.facing_right-form.ensures.entries;
}

pub loop-named-preserved : goal.loop-named-preserved
loop-named-preserved c =
    let form = c.loop-named.form in
    let named = c.loop-named.named in
    let steps = c.min-steps.result in
    let state = c.in-Some.state.0 in
    let same : c.restart.new.self.table ≡ form = ap (λ (r : RunState). r.table) c.restart.ensures in
    let found = came_some (λ (q : State). (named ≤ q.0) × (q.0 < c.restart.new.self.table.states) × ComesFirstTo (entry_of c.restart.new.self.table) steps named q.0) c.in_ok-state.field-0 c.in-Some.state c.in-Some.is c.in_ok-state.ensures.some in
    let comes : ComesFirstTo (entry_of form) steps named state = subst (λ (t : Packed). ComesFirstTo (entry_of t) steps named state) same found.2 in
    record {
      some = omega arith;
      states = c.table_changed-form.ensures.states ∙ c.loop-named.invariant.states;
      named = named_more named steps state (facing_right (entry_of c.args.t.now)) (entry_of form) (entry_of c.table_changed-form.result) c.loop-named.invariant.some found.0 c.loop-named.invariant.named comes c.table_changed-form.ensures.entries;
    }

pub returns-in-None-clause-form : goal.returns-in-None-clause-form
returns-in-None-clause-form c =
    let form = c.loop-named.form in
    let named = c.loop-named.named in
    let steps = c.min-steps.result in
    let same : c.restart.new.self.table ≡ form = ap (λ (r : RunState). r.table) c.restart.ensures in
    let none = came_none (StaysBelow (entry_of c.restart.new.self.table) (suc steps) named) c.in_ok-state.field-0 c.in-None.is c.in_ok-state.ensures.none in
    let stays : StaysBelow (entry_of form) (suc steps) named = subst (λ (t : Packed). StaysBelow (entry_of t) (suc steps) named) same none in
    subst (λ (k : ℕ). IsNormalForm k c.args.t.now form) c.min-steps.ensures (named_whole named steps c.args.t.now form c.loop-named.invariant.states c.loop-named.invariant.named stays)

pub returns-clause-form : goal.returns-clause-form
returns-clause-form c =
    let form = c.loop-named.form in
    let named = c.loop-named.named in
    let steps = c.min-steps.result in
    let some : 1 ≤ c.args.t.now.states = c.states-states.ensures.table.some in
    let states : form.states ≡ c.args.t.now.states = c.loop-named.invariant.states in
    let all : named ≡ form.states = omega arith in
    subst (λ (k : ℕ). IsNormalForm k c.args.t.now form) c.min-steps.ensures
    (named_all steps c.args.t.now form c.states-2.ensures.table states (subst (λ (k : ℕ). IsNamed k steps (facing_right (entry_of c.args.t.now)) (entry_of form)) all c.loop-named.invariant.named))

pub returns-in-None-clause-alike : goal.returns-in-None-clause-alike
returns-in-None-clause-alike c k s = normal_alike _ c.args.t.now c.loop-named.form (returns-in-None-clause-form c) k s

pub returns-clause-alike : goal.returns-clause-alike
returns-clause-alike c k s = normal_alike _ c.args.t.now c.loop-named.form (returns-clause-form c) k s

pub returns-in-None-clause-same : goal.returns-in-None-clause-same
returns-in-None-clause-same c = unchanged _ c.args.t.now c.loop-named.form c.states-states.ensures.table c.states.ensures.table (returns-in-None-clause-form c)

pub returns-clause-same : goal.returns-clause-same
returns-clause-same c = unchanged _ c.args.t.now c.loop-named.form c.states-states.ensures.table c.states-2.ensures.table (returns-clause-form c)
