use Rattle.std.proofs.Common.{◌≡◌, map, take, drop, []}
use Rattle.machine_text.specs.Terms.{entry_of}
use Rattle.law_induction.specs.Terms.{are_proved, all_forms}
use Rattle.kind_rules.specs.Views.{group_in}
use Rattle.kind_rules.proofs.judging.check_groups.Given as goal

abbrev pub invariant-loop-k : goal.invariant-loop-k
invariant-loop-k l = are_proved (entry_of l.t) (all_forms (map group_in (take l.k l.groups))) (map group_in (drop l.k l.groups)) ≡ are_proved (entry_of l.t) [] (map group_in l.groups)
