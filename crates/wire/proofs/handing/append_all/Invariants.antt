use Rattle.std.proofs.Common.{◌≡◌, ◌≤◌, ◌-◌, length, take}
use Rattle.wire.specs.Fulfilled.{grown}
use Rattle.wire.proofs.handing.append_all.Given as goal

abbrev pub invariant-calls : goal.invariant-calls
invariant-calls g l = record {
  within : l.done ≤ length l.bytes;
  grown_is : g.W.LedgerOut.text l.ledger ≡ grown (g.W.LedgerOut.text l.fn.ledger) (take l.done l.bytes);
  count : g.W.LedgerOut.failures l.ledger ≡ g.W.LedgerOut.failures l.fn.ledger;
}

abbrev pub decreases-calls : goal.decreases-calls
decreases-calls g l = length l.bytes - l.done
