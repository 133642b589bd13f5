use Rattle.std.proofs.Common.{List, map, sym, ◌∙◌, subst}
use Rattle.leases.specs.inside.{AreDue, StoredLease, as_lease, stored_lease}
use Rattle.leases.proofs.Moments.{none_due}
use Rattle.leases.proofs.live_leases.LiveLeases.due.Goals as goal
use Rattle.leases.proofs.live_leases.LiveLeases.due.Goals.{then-is_due+in_ok-self-inside, else-is_due}

pub returns-clause-ok : goal.returns-clause-ok
returns-clause-ok c =
    let ls = map stored_lease c.self.inside.leases.items in
    subst (λ (xs : List StoredLease). AreDue c.args.moment (map as_lease xs) c.if-is_due.numbers.items) c.self.view_is (elim c.if-is_due.branch [
      | then-is_due+in_ok-self-inside w ↦ rw w.numbers-is w.in_ok-self-inside.ensures.due
      | else-is_due w ↦ rw w.numbers-is (subst (AreDue c.args.moment (map as_lease ls)) (sym c.new-numbers.ensures.items)
          (none_due c.args.moment c.self.inside.earliest ls c.self.invariant.2 (sym c.is_due.ensures ∙ w.if-is_due.false)))
    ])
