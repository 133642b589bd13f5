use Rattle.std.proofs.Common.{◌≡◌, ◌++◌}
use Rattle.std.specs.Prelude.{filter}
use Rattle.cmd_parts.specs.inside.{is_below}
use Rattle.cmd_parts.proofs.settle.below.Given as goal

-- what is found, and what those that are left give, is what will be found
abbrev pub invariant-loop-t : goal.invariant-loop-t
invariant-loop-t l = l.found.items ++ filter (is_below l.limit) l.t-iterator ≡ filter (is_below l.limit) l.fn.tables
