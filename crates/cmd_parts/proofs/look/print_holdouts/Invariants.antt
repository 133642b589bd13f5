use Rattle.std.proofs.Common.{◌≡◌, ℕ, List, ◌++◌}
use Rattle.std.specs.Prelude.{map}
use Rattle.std.specs.Io.KnownBytes.{Appends}
use Rattle.std.specs.Vec.Iter.{into_iter_items}
use Rattle.text.specs.Terms.{joined}
use Rattle.machine_text.specs.Terms.{text_of}
use Rattle.cmd_parts.proofs.look.print_holdouts.Given as goal

-- some lines are printed, and they and those of the tables that are left are the lines of all
abbrev pub invariant-loop-table : goal.invariant-loop-table
invariant-loop-table g l = (done : List ℕ)
    × Appends (g.W.Write.contents l.fn.answers) (g.W.Write.contents l.answers) done
    × (done ++ joined (map text_of (into_iter_items l.table-iterator)) ≡ joined (map text_of (into_iter_items l.fn.holdouts)))
