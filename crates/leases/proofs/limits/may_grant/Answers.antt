use Rattle.std.proofs.Common.{rules}
use Rattle.leases.proofs.limits.may_grant.Goals as goal

-- answered by name, so that nothing is offered where an edit makes it false
pub returns-then-live-lt-MAX_LEASES : goal.returns-then-live-lt-MAX_LEASES
returns-then-live-lt-MAX_LEASES c = search rules steps 100000
