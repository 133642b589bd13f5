use Rattle.std.proofs.Common.{◌≡◌, map, take}
use Rattle.leases.specs.inside.{AreNotBefore, due_of, stored_lease}
use Rattle.leases.proofs.held_leases.list_ended.Given as goal

-- those of the leases before the place that have ended are listed, and none of them was given or renewed before the earliest
abbrev pub invariant-loop-place : goal.invariant-loop-place
invariant-loop-place l = record {
  listed : l.numbers.items ≡ due_of l.moment (take l.place (map stored_lease l.leases.items));
  first : AreNotBefore l.earliest (take l.place (map stored_lease l.leases.items));
}
