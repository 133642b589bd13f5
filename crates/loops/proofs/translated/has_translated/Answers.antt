use Rattle.std.proofs.Common.{◌≡◌, ◌∙◌, ap, subst, ℤ, Option, Some, rules}
use Rattle.std.specs.Int.{w64}
use Rattle.std.specs.Int.RustNames.{FitsSigned}
use Rattle.std.proofs.lemmas.Int.{to_z-of_z}
use Rattle.machine_text.specs.Terms.{Packed, entry_of}
use Rattle.law_turing.specs.Terms.{Config, after}
use Rattle.run.specs.Terms.{RunState}
use Rattle.loops.specs.inside.{Moment, GoesTo}
use Rattle.loops.proofs.CycleLaws.{arrived, not_arrived, not_begun, not_ended}
use Rattle.loops.proofs.translated.has_translated.Goals as goal

pub returns-then-not-branch : goal.returns-then-not-branch
returns-then-not-branch c =
    let none = not_arrived c.args.i c.in_ok-runner.runner c.comes_to.new.runner c.in_ok-comes_to.field-0 c.in_ok-comes_to.ensures (search rules) in
    let began : c.in_ok-runner.runner.table ≡ c.args.t.now = ap (λ (r : RunState). r.table) c.in_ok-runner.ensures in
    not_begun _ _ _ _ (subst (λ (p : Packed). (d : Config) → after (entry_of p) c.args.i ≡ Some d → ⊥) began none)

pub returns-in_default : goal.returns-in_default
returns-in_default c =
    let first = arrived c.args.i c.in_ok-runner.runner c.comes_to.new.runner c.in_ok-comes_to.field-0 c.in_ok-comes_to.ensures (search rules) in
    let table : c.comes_to.new.runner.table ≡ c.args.t.now = first.table ∙ ap (λ (r : RunState). r.table) c.in_ok-runner.ensures in
    let none = subst (λ (o : Option ℤ). GoesTo c.args.j c.args.side c.comes_to.new.runner o c.farthest_head.new.runner) c.in_default.is c.in_ok-bound.ensures in
    not_ended _ _ _ _ (subst (λ (p : Packed). (d : Config) → after (entry_of p) c.args.j ≡ Some d → ⊥) table none)

pub is_translated-requires-clause-farthest : goal.is_translated-requires-clause-farthest
is_translated-requires-clause-farthest c =
    let fits : FitsSigned w64 c.in-Some.bound = search rules in
    let goes = subst (λ (o : Option ℤ). GoesTo c.args.j c.args.side c.comes_to.new.runner o c.farthest_head.new.runner) c.in-Some.is c.in_ok-bound.ensures in
    let time : c.in_ok-begin.begin.time ≡ c.comes_to.new.runner.steps = ap (λ (m : Moment). m.time) c.in_ok-begin.ensures.kept in
    rw (to_z-of_z w64 c.in-Some.bound fits, time, goes.0.steps, goes.0.table) goes.1

pub returns : goal.returns
returns c =
    let first = arrived c.args.i c.in_ok-runner.runner c.comes_to.new.runner c.in_ok-comes_to.field-0 c.in_ok-comes_to.ensures (search rules) in
    let goes = subst (λ (o : Option ℤ). GoesTo c.args.j c.args.side c.comes_to.new.runner o c.farthest_head.new.runner) c.in-Some.is c.in_ok-bound.ensures in
    let table : c.farthest_head.new.runner.table ≡ c.args.t.now = goes.0.table ∙ (first.table ∙ ap (λ (r : RunState). r.table) c.in_ok-runner.ensures) in
    let time : c.in_ok-begin.begin.time ≡ c.args.i = ap (λ (m : Moment). m.time) c.in_ok-begin.ensures.kept ∙ first.steps in
    rw (← table, ← time, ← goes.0.steps) c.is_translated.ensures
