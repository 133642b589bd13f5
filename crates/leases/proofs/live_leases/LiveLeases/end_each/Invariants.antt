use Rattle.std.proofs.Common.{◌≡◌, drop}
use Rattle.leases.specs.inside.{without_each}
use Rattle.leases.proofs.live_leases.LiveLeases.end_each.Given as goal

abbrev pub invariant-loop-number : goal.invariant-loop-number
invariant-loop-number l = without_each l.numbers l.fn.self ≡ without_each (drop l.number-index l.numbers) l.self
