use Rattle.cmd_show.specs.inside.{KeepsLines}
use Rattle.cmd_show.proofs.printer.Printer.print_all.Given as goal

-- whole lines wait, or are written
abbrev pub invariant-lines : goal.invariant-lines
invariant-lines g l = KeepsLines l.fn.self.waits.items (g.W.Write.contents l.fn.answers) l.self.waits.items (g.W.Write.contents l.answers)
