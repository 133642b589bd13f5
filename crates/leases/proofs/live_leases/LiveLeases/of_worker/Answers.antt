use Rattle.std.proofs.Common.{◌∙◌, subst, List, map}
use Rattle.leases.specs.inside.{StoredLease, stored_lease, IsOwn}
use Rattle.leases.proofs.LiveLaws.{is_own}
use Rattle.leases.proofs.live_leases.LiveLeases.of_worker.Goals as goal

pub returns : goal.returns
returns c =
    subst (λ (ls : List StoredLease). IsOwn c.args.id c.copied.result ls) c.self.view_is
    (is_own c.args.id c.copied.result (map stored_lease c.self.inside.leases.items) _ c.self.invariant.0 c.self.invariant.1 (c.copied.ensures ∙ c.get.ensures.value))
