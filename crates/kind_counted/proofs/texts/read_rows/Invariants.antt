use Rattle.std.proofs.Common.{length}
use Rattle.kind_counted.proofs.ReadTexts.{AreRead}
use Rattle.kind_counted.proofs.texts.read_rows.Given as goal

abbrev pub decreases-parts : goal.decreases-parts
decreases-parts l = length l.parts

abbrev pub invariant-parts : goal.invariant-parts
invariant-parts l = AreRead l.limit l.low l.rows.items l.parts l.initial.parts
