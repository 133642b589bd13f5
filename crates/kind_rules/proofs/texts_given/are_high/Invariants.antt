use Rattle.std.proofs.Common.{◌≡◌, drop}
use Rattle.kind_rules.specs.RuleTexts.{are_high}
use Rattle.kind_rules.proofs.texts_given.are_high.Given as goal

abbrev pub invariant-loop-b : goal.invariant-loop-b
invariant-loop-b l = are_high (drop l.b-index l.text) ≡ are_high l.text
