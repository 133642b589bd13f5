use Rattle.std.proofs.Common.{◌≡◌, ◌≤◌, length}
use Rattle.cmd_dispatch.proofs.lenient.Lenient.keep.Given as goal

-- what is kept isn't longer than what was read of the piece
abbrev pub invariant-loop-at : goal.invariant-loop-at
invariant-loop-at g l = (l.kept ≤ l.at) × (length l.piece ≡ l.at-end)
