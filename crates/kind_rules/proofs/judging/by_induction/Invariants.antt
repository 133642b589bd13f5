use Rattle.std.proofs.Common.{◌≡◌, drop, map}
use Rattle.law_induction.specs.Terms.{by_induction}
use Rattle.kind_rules.specs.Views.{proved_in}
use Rattle.kind_rules.proofs.judging.by_induction.Given as goal

abbrev pub invariant-loop-proved : goal.invariant-loop-proved
invariant-loop-proved l = by_induction (map proved_in (drop l.proved-index l.group)) ≡ by_induction (map proved_in l.group)
