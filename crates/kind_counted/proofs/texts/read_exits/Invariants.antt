use Rattle.std.proofs.Common.{◌≡◌, length}
use Rattle.kind_counted.specs.Texts.{exits_from}
use Rattle.kind_counted.proofs.ReadTexts.{before}
use Rattle.kind_counted.proofs.texts.read_exits.Given as goal

abbrev pub decreases-parts : goal.decreases-parts
decreases-parts l = length l.parts

abbrev pub invariant-parts : goal.invariant-parts
invariant-parts l = before l.exits.items (exits_from l.states l.low l.limit l.parts) ≡ exits_from l.states l.low l.limit l.initial.parts
