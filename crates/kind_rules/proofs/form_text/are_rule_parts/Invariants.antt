use Rattle.std.proofs.Common.{◌≡◌, length}
use Rattle.std.specs.Prelude.{is_some}
use Rattle.kind_rules.specs.Texts.{rules_of_parts}
use Rattle.kind_rules.proofs.form_text.are_rule_parts.Given as goal

abbrev pub decreases-parts : goal.decreases-parts
decreases-parts l = length l.parts

abbrev pub invariant-parts : goal.invariant-parts
invariant-parts l = is_some (rules_of_parts l.states l.parts) ≡ is_some (rules_of_parts l.states l.initial.parts)
