use Rattle.std.proofs.Common.{◌≡◌, length}
use Rattle.std.specs.Prelude.{is_some}
use Rattle.kind_counted.specs.Texts.{exits_from}
use Rattle.kind_counted.proofs.texts.are_exits.Given as goal

abbrev pub decreases-parts : goal.decreases-parts
decreases-parts l = length l.parts

abbrev pub invariant-parts : goal.invariant-parts
invariant-parts l = is_some (exits_from l.states l.low l.limit l.parts) ≡ is_some (exits_from l.states l.low l.limit l.initial.parts)
