use Rattle.std.proofs.Common.{refl}
use Rattle.ledger.specs.Terms.{same_table}
use Rattle.leases.proofs.FreeLaws.{loses_key}
use Rattle.leases.proofs.live_leases.renew_lease.Goals as goal

-- answered by name, so that nothing is offered where an edit makes it false
pub returns : goal.returns
unfolding same_table
returns c = record {
  number = refl;
  id = refl;
  renewed = refl;
  here = c.lease_children.ensures.here;
  other = c.lease_children.ensures.other;
  only = c.lease_children.ensures.only;
  more = λ q h other. c.lease_children.ensures.more q (loses_key c.args.t.now c.args.lease.now.tables.keys c.swap_remove.new.self.keys c.swap_remove.ensures.updates.0 q h other);
}
