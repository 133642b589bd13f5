use Rattle.std.proofs.Common.{◌++◌}
use Rattle.ledger.specs.Terms.{IsOpenOn, AreAll}
use Rattle.cmd_parts.proofs.join.open_tables.Given as goal

-- those that were taken, and those that are left, are all
abbrev pub invariant-loop-root : goal.invariant-loop-root
invariant-loop-root l = AreAll (IsOpenOn l.trunk) (l.roots.items ++ l.root-iterator)
