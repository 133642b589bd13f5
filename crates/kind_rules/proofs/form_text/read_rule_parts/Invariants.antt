use Rattle.std.proofs.Common.{◌≡◌, ◌++◌, length, map}
use Rattle.std.specs.Prelude.{option_map}
use Rattle.kind_rules.specs.Texts.{rules_of_parts}
use Rattle.kind_rules.specs.Views.{proved_in}
use Rattle.kind_rules.proofs.form_text.read_rule_parts.Given as goal

abbrev pub decreases-parts : goal.decreases-parts
decreases-parts l = length l.parts

abbrev pub invariant-parts : goal.invariant-parts
invariant-parts l = option_map (λ more. map proved_in l.rules.items ++ more) (rules_of_parts l.states l.parts) ≡ rules_of_parts l.states l.initial.parts
