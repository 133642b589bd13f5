use Rattle.std.proofs.Common.{◌≡◌, ◌++◌, drop, length, map, take}
use Rattle.std.specs.Prelude.{bit_xor}
use Rattle.peers.proofs.guest.masked.Given as goal

-- the bytes before the place are turned, and the others are as they were
abbrev pub invariant-loop-i : goal.invariant-loop-i
invariant-loop-i l = record {
  len : length l.out ≡ 64;
  done : l.out ≡ map (λ byte. bit_xor byte l.mask) (take l.i l.fn.block) ++ drop l.i l.fn.block;
}
