use Rattle.std.proofs.Common.{◌≡◌, ◌++◌, length, map}
use Rattle.std.specs.Prelude.{option_map}
use Rattle.kind_rules.specs.Texts.{groups_of_parts}
use Rattle.kind_rules.specs.Views.{group_in}
use Rattle.kind_rules.proofs.form_text.read_group_parts.Given as goal

abbrev pub decreases-parts : goal.decreases-parts
decreases-parts l = length l.parts

abbrev pub invariant-parts : goal.invariant-parts
invariant-parts l = option_map (λ more. map group_in l.groups.items ++ more) (groups_of_parts l.states l.parts) ≡ groups_of_parts l.states l.initial.parts
