use Rattle.std.proofs.Common.{◌≡◌, ◌≤◌, ◌-◌, ap, sym, ◌∙◌, subst, arith}
use Rattle.machine_text.specs.Terms.{Packed, entry_of}
use Rattle.run.specs.Steps.{TellsPassage, RunState}
use Rattle.run.proofs.Standings.{may_cross, stands_crossed}
use Rattle.run.proofs.runner.Runner.cross.Goals as goal

pub cross-requires-clause-limit : goal.cross-requires-clause-limit
cross-requires-clause-limit c =
    let began : c.self.inside.steps ≡ c.args.self.now.steps = ap (λ (r : RunState). r.steps) c.self.view_is in
    may_cross _ c.args.k c.window-window.result.at c.in-Some.passage.side c.self.invariant (omega (arith, began, c.requires.onward)) c.requires.limit c.window-window.ensures.at.inside

pub invariant_of-self-then-passage-k : goal.invariant_of-self-then-passage-k
invariant_of-self-then-passage-k c =
    let began : c.self.inside.steps ≡ c.args.self.now.steps = ap (λ (r : RunState). r.steps) c.self.view_is in
    let table : c.args.passages.now ≡ c.self.inside.table = c.requires.passages ∙ ap (λ (r : RunState). r.table) (sym c.self.view_is) in
    let passes = subst (λ (p : Packed). TellsPassage (entry_of p) c.self.inside.state.0 c.window-window.result c.in-Some.passage) table c.in-Some.ensures.passes in
    stands_crossed _ c.window-window.result c.in-Some.passage c.cross.new.self c.self.invariant c.window-window.ensures.cells passes c.in_ok-cross-in-Some.ensures.ok (omega (arith, began, c.if-passage-k.true, c.requires.onward, c.requires.limit))

pub returns-in_ok-cross-in-Some-clause-ok : goal.returns-in_ok-cross-in-Some-clause-ok
returns-in_ok-cross-in-Some-clause-ok c =
    let began : c.self.inside.steps ≡ c.args.self.now.steps = ap (λ (r : RunState). r.steps) c.self.view_is in
    let some = c.in-Some.ensures.passes.some in (
      record {
        table = ap (λ (r : RunState). r.table) c.self.view_is;
        low = omega (arith, began);
        high = omega (arith, began, c.requires.onward);
        stands = invariant_of-self-then-passage-k c;
      },
      omega (arith, began, some),
    )

pub returns-in_ok-cross-in-Some-clause-stands : goal.returns-in_ok-cross-in-Some-clause-stands
returns-in_ok-cross-in-Some-clause-stands c = invariant_of-self-then-passage-k c
