use Rattle.std.proofs.Common.{◌≡◌, ◌+◌, drop, map}
use Rattle.law_induction.specs.Terms.{steps_of_groups}
use Rattle.kind_rules.specs.Views.{group_in}
use Rattle.kind_rules.proofs.judging.left_behind_groups.Given as goal

abbrev pub invariant-loop-group : goal.invariant-loop-group
invariant-loop-group l = l.left + steps_of_groups (map group_in l.groups) ≡ l.most + steps_of_groups (map group_in (drop l.group-index l.groups))
