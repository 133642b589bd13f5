use Rattle.std.proofs.Common.{subst, inl, inr, List, Contains}
use Rattle.machine_text.specs.Terms.{Packed}
use Rattle.ledger.proofs.HeldLaws.{first_or_later}
use Rattle.leases.proofs.children.open_tables.Goals as goal

pub loop-t-preserved : goal.loop-t-preserved
loop-t-preserved c = λ t is_open. elim (c.loop-t.invariant t is_open) [
  | inl there ↦ inl (c.in_ok-push.ensures.ok.others t there)
  | inr left ↦
      elim (first_or_later c.in-Some.t.now c.next.new.self t (subst (λ (l : List Packed). Contains l t) c.in-Some.ensures.steps left)) [
        | inl same ↦ inl (subst (Contains c.push.new.self.tables) same c.in_ok-push.ensures.ok.here)
        | inr later ↦ inr later
      ]
]
