use Rattle.cmd_show.specs.inside.{KeepsLines}
use Rattle.std.proofs.Common.{[]}
use Rattle.cmd_show.proofs.show.show_for.Given as goal

-- whole lines wait, or are written
abbrev pub invariant-pieces : goal.invariant-pieces
invariant-pieces g l = KeepsLines [] (g.W.Write.contents l.fn.answers) l.printer.waits.items (g.W.Write.contents l.answers)
