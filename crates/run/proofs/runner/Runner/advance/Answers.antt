use Rattle.std.proofs.Common.{rules, ◌≤◌, ◌-◌, ◌≡◌, sym, ◌∙◌, ap, arith}
use Rattle.machine_text.specs.Terms.{entry_of}
use Rattle.run.specs.Steps.{RunState}
use Rattle.run.proofs.Standings.{may_sweep, stands_swept}
use Rattle.run.proofs.runner.Runner.advance.Goals as goal

pub sweep-requires : goal.sweep-requires
sweep-requires c =
    let began : c.self.inside.steps ≡ c.args.self.now.steps = ap (λ (r : RunState). r.steps) c.self.view_is in
    may_sweep _ c.args.k c.self.invariant (omega (arith, began, c.requires.onward)) c.requires.limit

-- a sweep is as many steps
pub invariant_of-self-then-eq : goal.invariant_of-self-then-eq
invariant_of-self-then-eq c =
    let began : c.self.inside.steps ≡ c.args.self.now.steps = ap (λ (r : RunState). r.steps) c.self.view_is in
    let some : c.in_ok-self-inside-in-Some.field-0 ≤ c.args.k - c.self.inside.steps = c.in_ok-self-inside-in-Some.ensures.ok.1 in
    stands_swept _ c.in-Some.entry c.in_ok-self-inside-in-Some.field-0 c.sweep.new.self c.self.invariant (ap (entry_of c.self.inside.table c.self.inside.state.0) (sym c.read.ensures) ∙ (sym c.get.ensures.entry ∙ c.in-Some.is)) (search rules) c.in_ok-self-inside-in-Some.ensures.ok.0 (omega (arith, began, some, c.requires.onward, c.requires.limit))

pub returns-in_ok-self-inside-in-Some-clause-ok : goal.returns-in_ok-self-inside-in-Some-clause-ok
returns-in_ok-self-inside-in-Some-clause-ok c =
    let began : c.self.inside.steps ≡ c.args.self.now.steps = ap (λ (r : RunState). r.steps) c.self.view_is in
    let some : c.in_ok-self-inside-in-Some.field-0 ≤ c.args.k - c.self.inside.steps = c.in_ok-self-inside-in-Some.ensures.ok.1 in
    let least = c.in_ok-self-inside-in-Some.ensures.ok.0.some in (
      record {
        table = ap (λ (r : RunState). r.table) c.self.view_is;
        low = omega (arith, began);
        high = omega (arith, began, some, c.requires.onward);
        stands = invariant_of-self-then-eq c;
      },
      omega (arith, began, least),
    )

pub returns-in_ok-self-inside-in-Some-clause-stands : goal.returns-in_ok-self-inside-in-Some-clause-stands
returns-in_ok-self-inside-in-Some-clause-stands c = invariant_of-self-then-eq c
