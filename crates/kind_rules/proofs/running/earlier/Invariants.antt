use Rattle.std.proofs.Common.{◌≡◌, ◌+◌, drop, length, map}
use Rattle.law_induction.specs.Terms.{rule_at, all_forms}
use Rattle.kind_rules.specs.Views.{group_in}
use Rattle.kind_rules.proofs.running.earlier.Given as goal

abbrev pub invariant-loop-group : goal.invariant-loop-group
invariant-loop-group l = (rule_at (all_forms (map group_in (drop l.group-index l.groups))) l.rest ≡ rule_at (all_forms (map group_in l.groups)) l.k) × (length (all_forms (map group_in l.groups)) + l.rest ≡ l.k + length (all_forms (map group_in (drop l.group-index l.groups))))
