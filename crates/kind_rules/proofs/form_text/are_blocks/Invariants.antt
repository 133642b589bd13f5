use Rattle.std.proofs.Common.{◌≡◌, length}
use Rattle.std.specs.Prelude.{is_some}
use Rattle.kind_rules.specs.Texts.{blocks_from}
use Rattle.kind_rules.proofs.form_text.are_blocks.Given as goal

abbrev pub decreases-parts : goal.decreases-parts
decreases-parts l = length l.parts

abbrev pub invariant-parts : goal.invariant-parts
invariant-parts l = is_some (blocks_from l.parts) ≡ is_some (blocks_from l.initial.parts)
