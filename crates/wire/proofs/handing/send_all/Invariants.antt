use Rattle.std.proofs.Common.{◌≡◌, ◌≤◌, ◌-◌, length, take}
use Rattle.wire.specs.Fulfilled.{grown}
use Rattle.wire.proofs.handing.send_all.Given as goal

abbrev pub invariant-calls : goal.invariant-calls
invariant-calls g l = record {
  within : l.done ≤ length l.bytes;
  grown_is : g.L.Link.sent l.link ≡ grown (g.L.Link.sent l.fn.link) (take l.done l.bytes);
  count : g.L.Link.failures l.link ≡ g.L.Link.failures l.fn.link;
  waiting : g.L.Link.waiting l.link ≡ g.L.Link.waiting l.fn.link;
}

abbrev pub decreases-calls : goal.decreases-calls
decreases-calls g l = length l.bytes - l.done
