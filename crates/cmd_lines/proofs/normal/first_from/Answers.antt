use Rattle.std.proofs.Common.{◌≡◌, ◌<◌, Some, sym, ap, subst, arith}
use Rattle.machine_text.specs.Terms.{Packed, entry_of}
use Rattle.law_turing.specs.Terms.{after}
use Rattle.cmd_lines.proofs.ChangedTables.{stays_halted}
use Rattle.cmd_lines.proofs.normal.first_from.Goals as goal

pub returns-in-Halts-clause-none : goal.returns-in-Halts-clause-none
returns-in-Halts-clause-none c =
    let below = c.steps-test.true in
    let is = c.state.ensures in
    stays_halted (entry_of c.args.runner.now.table) c.steps.runner c.in_ok-step.field-0 c.step.new.self c.in-Halts.count c.args.steps c.args.named
    c.steps.invariant.on_run (ap entry_of c.steps.invariant.table) c.in_ok-step.ensures.ok c.in-Halts.is (omega arith) c.steps.invariant.before

pub returns-clause-some : goal.returns-clause-some
returns-clause-some c =
    let r = c.steps.runner in
    let here : c.state-2.result.0 ≡ r.config.state = c.state-2.ensures in
    let before : c.state.result.0 ≡ r.config.state = c.state.ensures in
    let high = c.steps-test.false in
    let within : r.config.state < c.args.runner.now.table.states = subst (λ (t : Packed). r.config.state < t.states) c.steps.invariant.table c.steps.invariant.on_run.within in (
      omega arith,
      omega arith,
      record {
        time = r.steps;
        within = c.steps.invariant.within;
        at = r.config;
        is = subst (λ (t : Packed). after (entry_of t) r.steps ≡ Some r.config) c.steps.invariant.table c.steps.invariant.on_run.at;
        state = sym here;
        before = c.steps.invariant.before;
      },
    )
