use Rattle.std.proofs.Common.{◌≡◌, ◌++◌, length}
use Rattle.std.specs.Prelude.{option_map}
use Rattle.kind_rules.specs.Texts.{moves_from}
use Rattle.kind_rules.proofs.move_text.read_moves.Given as goal

abbrev pub decreases-parts : goal.decreases-parts
decreases-parts l = length l.parts

abbrev pub invariant-parts : goal.invariant-parts
invariant-parts l = option_map (λ more. l.moves.items ++ more) (moves_from l.parts) ≡ moves_from l.initial.parts
