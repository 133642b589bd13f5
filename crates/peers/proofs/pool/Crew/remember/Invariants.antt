use Rattle.std.proofs.Common.{◌≡◌, ◌++◌, replicate}
use Rattle.peers.proofs.pool.Crew.remember.Given as goal

abbrev pub invariant-loop-i : goal.invariant-loop-i
invariant-loop-i g l = record {
  asks : l.self-inside.asks.items ≡ l.fn.self.asks ++ replicate l.i l.place;
  cores : l.self-inside.cores.items ≡ l.fn.self.cores;
  latest : l.self-inside.latest ≡ l.fn.self.latest;
}
