use Rattle.std.proofs.Common.{◌≡◌, ℕ, ◌+◌, Some, ◌∙◌, inl, inr, subst, rules, arith}
use Rattle.std.specs.Int.{w64}
use Rattle.std.specs.Int.RustNames.{FitsSigned}
use mir.Val.{to_z}
use Rattle.std.proofs.lemmas.Int.{to_z-of_z}
use Rattle.machine_text.specs.Terms.{Packed, entry_of}
use Rattle.law_turing.specs.Terms.{Config, after}
use Rattle.loops.proofs.CycleLaws.{IsFarther, bound_more, arrived, not_arrived, none_after}
use Rattle.loops.proofs.translated.farthest_head.Goals as goal

-- a step that isn't carried out leaves no time j
pub returns-then-not-branch : goal.returns-then-not-branch
returns-then-not-branch c =
    let none = not_arrived _ c.loop-time.runner c.goes_on.new.runner c.in_ok-goes_on.field-0 c.in_ok-goes_on.ensures (search rules) in
    subst (λ (p : Packed). (d : Config) → after (entry_of p) c.args.j ≡ Some d → ⊥) c.loop-time.invariant.table
    (none_after (entry_of c.loop-time.runner.table) _ c.args.j (omega (arith, c.loop-time.invariant.steps)) none)

pub loop-time-preserved : goal.loop-time-preserved
loop-time-preserved c =
    let next = arrived _ c.loop-time.runner c.goes_on.new.runner c.in_ok-goes_on.field-0 c.in_ok-goes_on.ensures (search rules) in
    let before = c.loop-time.invariant in
    let steps : c.goes_on.new.runner.steps ≡ c.loop-time.runner.steps + 1 = next.steps in
    let fits : FitsSigned w64 c.farther-bound.result = search rules in
    let fits_head : FitsSigned w64 c.head.result = search rules in
    let here : c.head.result ≡ c.loop-time.runner.config.tape.head = search rules in
    let at : after (entry_of c.loop-time.runner.table) c.loop-time.time ≡ Some c.loop-time.runner.config =
    subst (λ (k : ℕ). after (entry_of c.loop-time.runner.table) k ≡ Some c.loop-time.runner.config) before.steps before.stands.at in
    let first = simp to_z-of_z at c.farther-bound.ensures.first in
    let second = simp to_z-of_z at c.farther-bound.ensures.second in
    let is : IsFarther c.args.side (to_z w64 c.loop-time.bound-bits) c.loop-time.runner.config.tape.head c.farther-bound.result = rw (← here) (record { first = first; second = second }) in
    record {
      steps = omega (arith, steps, before.steps);
      table = next.table ∙ before.table;
      stands = next.stands;
      so_far = rw (next.table, to_z-of_z w64 c.farther-bound.result fits) (inr (bound_more (entry_of c.loop-time.runner.table) c.args.side c.args.runner.now.steps c.loop-time.time _ _ c.loop-time.runner.config before.so_far at is));
    }

pub returns : goal.returns
returns c =
    let all : c.loop-time.time ≡ c.args.j = omega (arith, c.loop-time.auto.time-end, c.loop-time-test.false, c.steps-time.ensures.steps, c.requires.onward) in
    let before = c.loop-time.invariant in (
      record { table = before.table; steps = before.steps ∙ all; stands = before.stands },
      elim before.so_far [
        | inl now ↦ absurd (omega (arith, now.0, all, c.requires.onward))
        | inr f ↦ rw (← before.table, ← all) f
      ],
    )
