use Rattle.std.proofs.Common.{◌≡◌, not, take}
use Rattle.std.specs.Str.{bytes_eq}
use Rattle.peers.proofs.guest.is_same.Given as goal

-- whether the bytes before the place differ
abbrev pub invariant-loop-i : goal.invariant-loop-i
invariant-loop-i l = not l.differs ≡ bytes_eq (take l.i l.fn.said) (take l.i l.fn.wanted)
