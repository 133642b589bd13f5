use Rattle.std.proofs.Common.{rules, ◌≡◌, List, inl, inr, sym, subst}
use Rattle.std.specs.Prelude.{Contains}
use Rattle.machine_text.specs.Terms.{Packed}
use Rattle.ledger.proofs.HeldLaws.{first_or_later, later_member}
use Rattle.cmd_parts.specs.Look.{ComesOf}
use Rattle.cmd_parts.proofs.answer.root_among.Goals as goal

pub loop-root-preserved : goal.loop-root-preserved
loop-root-preserved c =
    let root = c.in-Some.root.now in
    let left = c.next.new.self in
    let no : ComesOf c.args.t.now root → ⊥ = search rules in record {
      some = λ r at. c.loop-root.invariant.some r (subst (λ (l : List Packed). Contains l r) (sym c.in-Some.ensures.steps) (later_member root left r at));
      each = λ r at of. elim (first_or_later root left r (subst (λ (l : List Packed). Contains l r) c.in-Some.ensures.steps (c.loop-root.invariant.each r at of))) [
        | inl is ↦ absurd (no (subst (ComesOf c.args.t.now) (sym is) of))
        | inr later ↦ later
      ];
    }
