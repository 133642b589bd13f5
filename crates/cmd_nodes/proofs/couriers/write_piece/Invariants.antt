use Rattle.std.proofs.Common.{◌≡◌, ℕ, List, ◌++◌, length}
use Rattle.std.specs.Io.KnownBytes.{Appends}
use Rattle.cmd_nodes.proofs.couriers.write_piece.Given as goal

-- what is left stands behind what was written
abbrev pub invariant-writes : goal.invariant-writes
invariant-writes g l = (written : List ℕ) × (l.piece ≡ written ++ l.left) × Appends (g.W.Write.contents l.fn.near) (g.W.Write.contents l.near) written

abbrev pub decreases-writes : goal.decreases-writes
decreases-writes g l = length l.left
