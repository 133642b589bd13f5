use Rattle.std.proofs.Common.{◌≡◌, length}
use Rattle.far.proofs.listed_unpacked.Unpacked.none_seen.Given as goal

abbrev pub invariant-loop-u : goal.invariant-loop-u
invariant-loop-u l = length l.seen.items ≡ l.u
