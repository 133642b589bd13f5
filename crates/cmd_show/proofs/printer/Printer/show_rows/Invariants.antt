use Rattle.std.proofs.Common.{◌+◌, ◌-◌}
use Rattle.run.specs.Terms.{run_step_limit}
use Rattle.cmd_show.specs.inside.{KeepsLines}
use Rattle.cmd_show.proofs.printer.Printer.show_rows.Given as goal

-- whole lines wait, or are written
abbrev pub invariant-each : goal.invariant-each
invariant-each g l = KeepsLines l.fn.self.waits.items (g.W.Write.contents l.fn.answers) l.self.waits.items (g.W.Write.contents l.answers)

abbrev pub decreases-each : goal.decreases-each
decreases-each g l = run_step_limit + 1 - l.rows
