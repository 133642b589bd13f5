use Rattle.std.proofs.Common.{◌≡◌, drop, map}
use Rattle.machine_text.specs.Terms.{entry_of}
use Rattle.law_induction.specs.Terms.{each_proved, forms_of, all_forms}
use Rattle.kind_rules.specs.Views.{proved_in, group_in}
use Rattle.kind_rules.proofs.judging.check_each.Given as goal

abbrev pub invariant-loop-proved : goal.invariant-loop-proved
invariant-loop-proved l = each_proved (entry_of l.t) (all_forms (map group_in l.before)) (forms_of (map proved_in l.group)) (map proved_in (drop l.proved-index l.group)) ≡ each_proved (entry_of l.t) (all_forms (map group_in l.before)) (forms_of (map proved_in l.group)) (map proved_in l.group)
