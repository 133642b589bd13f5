use Rattle.std.proofs.Common.{◌≡◌, ◌+◌, drop, map}
use Rattle.law_induction.specs.Terms.{steps_of_all}
use Rattle.kind_rules.specs.Views.{proved_in}
use Rattle.kind_rules.proofs.judging.left_behind_all.Given as goal

abbrev pub invariant-loop-proved : goal.invariant-loop-proved
invariant-loop-proved l = l.left + steps_of_all (map proved_in l.rules) ≡ l.most + steps_of_all (map proved_in (drop l.proved-index l.rules))
