use Rattle.std.proofs.Common.{◌≡◌, ℕ, List, ◌++◌}
use Rattle.std.specs.Io.KnownBytes.{Appends}
use Rattle.cmd_options.proofs.writing.write_in_full.Given as goal

-- what is left stands behind what was written
abbrev pub invariant-calls : goal.invariant-calls
invariant-calls g l = (written : List ℕ) × (l.initial.bytes ≡ written ++ l.left) × Appends (g.W.Write.contents l.fn.stream) (g.W.Write.contents l.stream) written
