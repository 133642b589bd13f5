use Rattle.std.proofs.Common.{◌≡◌, ◌+◌, drop}
use Rattle.law_induction.specs.Terms.{steps_in}
use Rattle.kind_rules.proofs.judging.left_behind.Given as goal

abbrev pub invariant-loop-x : goal.invariant-loop-x
invariant-loop-x l = l.left + steps_in l.moves ≡ l.most + steps_in (drop l.x-index l.moves)
