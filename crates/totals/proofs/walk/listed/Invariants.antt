use Rattle.std.proofs.Common.{◌≡◌, ◌++◌}
use Rattle.std.specs.Vec.Iter.{into_iter_items}
use Rattle.totals.proofs.walk.listed.Given as goal

-- what was listed, and what is left, are all
abbrev pub invariant-loop-table : goal.invariant-loop-table
invariant-loop-table l = l.found.items ++ into_iter_items l.table-iterator ≡ into_iter_items l.fn.tables
