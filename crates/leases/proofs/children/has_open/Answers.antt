use Rattle.std.proofs.Common.{refl, sym, subst, List, Contains}
use Rattle.machine_text.specs.Terms.{Packed}
use Rattle.ledger.proofs.HeldLaws.{first_member}
use Rattle.leases.proofs.children.has_open.Goals as goal

pub returns-in-Some-clause-some : goal.returns-in-Some-clause-some
returns-in-Some-clause-some c = λ is_true.
    let t = c.in-Some.field-0.now in
    (t, (c.open.ensures.exact t).0 (subst (λ (l : List Packed). Contains l t) (sym c.in-Some.ensures.steps) (first_member t t c.next.new.self refl)))
