use Rattle.std.proofs.Common.{◌≡◌, ◌++◌, length}
use Rattle.std.specs.Prelude.{option_map}
use Rattle.kind_rules.specs.Texts.{blocks_from}
use Rattle.kind_rules.proofs.form_text.read_blocks.Given as goal

abbrev pub decreases-parts : goal.decreases-parts
decreases-parts l = length l.parts

abbrev pub invariant-parts : goal.invariant-parts
invariant-parts l = option_map (λ more. l.blocks.items ++ more) (blocks_from l.parts) ≡ blocks_from l.initial.parts
