use Rattle.std.proofs.Common.{◌≡◌, length}
use Rattle.std.specs.Prelude.{is_some}
use Rattle.kind_counted.specs.Texts.{rows_from}
use Rattle.kind_counted.proofs.texts.are_rows.Given as goal

abbrev pub decreases-parts : goal.decreases-parts
decreases-parts l = length l.parts

abbrev pub invariant-parts : goal.invariant-parts
invariant-parts l = is_some (rows_from l.limit l.low l.parts) ≡ is_some (rows_from l.limit 0 l.initial.parts)
