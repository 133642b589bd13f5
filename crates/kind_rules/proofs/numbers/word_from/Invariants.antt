use Rattle.std.proofs.Common.{◌≡◌, ◌*◌, ◌<◌, ◌≤◌, drop}
use Rattle.kind_rules.specs.Limits.{symbol_weight_limit}
use Rattle.kind_rules.specs.Texts.{word_onto}
use Rattle.kind_rules.proofs.numbers.word_from.Given as goal

abbrev pub invariant-loop-b : goal.invariant-loop-b
invariant-loop-b l = (word_onto l.weight l.number (drop l.b-index l.text) ≡ word_onto 1 0 l.text) × (l.number < l.weight) × (l.weight ≤ 2 * symbol_weight_limit)
