use Rattle.totals.specs.Totals.{WalksOn}
use Rattle.totals.proofs.walk.Walk.walk.Given as goal

abbrev pub invariant-loop-i : goal.invariant-loop-i
invariant-loop-i g l = WalksOn _ g.D.Decider.answers l.fn.self l.i l.self
