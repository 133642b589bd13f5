use Rattle.std.proofs.Common.{rules}
use Rattle.leases.proofs.held_leases.is_due.Goals as goal

-- answered by name, so that nothing is offered where an edit makes it false
pub returns-then-moment-ge-LEASE_TIME : goal.returns-then-moment-ge-LEASE_TIME
returns-then-moment-ge-LEASE_TIME c = search rules steps 100000
