use Rattle.std.proofs.Common.{◌≡◌, sym, ◌∙◌, ap, subst, List, Some, None, map}
use Rattle.leases.specs.Leases.{Leased, lease_of, came_under, while_live}
use Rattle.leases.specs.inside.{StoredLease, as_lease}
use Rattle.leases.proofs.LiveLaws.{without_none}
use Rattle.leases.proofs.leased_board.LeasedBoard.offer_line.Goals as goal

pub offer_under-requires : goal.offer_under-requires
offer_under-requires c =
    subst (λ (s : Leased). lease_of s.leases c.args.r.now.table ≡ Some c.in-Some.number) c.self.view_is
    (ap (λ (ls : List StoredLease). while_live (map as_lease ls) (came_under c.self.inside.came_under.entries c.args.r.now.table)) (sym (without_none c.self.inside.live)) ∙ (sym c.lease_of.ensures ∙ c.in-Some.is))

pub offer_free-requires : goal.offer_free-requires
offer_free-requires c =
    subst (λ (s : Leased). lease_of s.leases c.args.r.now.table ≡ None) c.self.view_is
    (ap (λ (ls : List StoredLease). while_live (map as_lease ls) (came_under c.self.inside.came_under.entries c.args.r.now.table)) (sym (without_none c.self.inside.live)) ∙ (sym c.lease_of.ensures ∙ c.in-None.is))
