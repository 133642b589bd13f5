use Rattle.std.proofs.Common.{◌+◌, ◌-◌}
use Rattle.run.specs.Terms.{run_step_limit}
use Rattle.cmd_show.proofs.printer.append_lines.Given as goal

abbrev pub decreases-each : goal.decreases-each
decreases-each l = run_step_limit + 1 - l.rows
