use Rattle.std.proofs.Common.{inl, inr, ap, subst, List, [], length, Contains, arith}
use Rattle.machine_text.specs.Terms.{Packed}
use Rattle.ledger.proofs.HeldLaws.{first_or_later}
use Rattle.leases.proofs.children.free_all.Goals as goal

pub loop-child-preserved : goal.loop-child-preserved
loop-child-preserved c =
    let gained = c.in-Ok.ensures.ok in
    let fewer = ap length c.in-Some.ensures.steps in
    let room = c.in-Ok.ensures.room in
    let was = c.loop-child.invariant.room in
    record {
      room = omega arith;
      more = λ q h. gained.others q (c.loop-child.invariant.more q h);
      all = λ q h. elim (c.loop-child.invariant.all q h) [
        | inl there ↦ inl (gained.others q there)
        | inr left ↦
            elim (first_or_later c.in-Some.child c.next.new.self q (subst (λ (l : List Packed). Contains l q) c.in-Some.ensures.steps left)) [
              | inl same ↦ inl (subst (Contains c.push.new.self.tables) same gained.here)
              | inr later ↦ inr later
            ]
      ];
    }

pub returns-clause-all : goal.returns-clause-all
returns-clause-all c = λ q h. elim (c.loop-child.invariant.all q h) [
  | inl there ↦ there
  | inr left ↦ let none : Contains [] q = subst (λ (l : List Packed). Contains l q) c.in-None.ensures.steps.0 left in absurd (omega (arith, none.1))
]
