use Rattle.std.proofs.Common.{sym}
use Rattle.cmd_nodes.proofs.Coordinators.{begins_with, start_step}
use Rattle.cmd_nodes.proofs.coord.start.Goals as goal

pub returns-clause-begins : goal.returns-clause-begins
returns-clause-begins g c =
    let done = c.in_ok-begin_ledger.ensures in
    rw (sym c.of-held.ensures) (begins_with _ _ _ _ _ _ _ done.0 c.start_from-node.ensures done.1)

pub returns-clause-step : goal.returns-clause-step
returns-clause-step g c =
    let done = c.in_ok-begin_ledger.ensures in
    rw (sym c.of-held.ensures) (start_step _ _ _ _ _ _ _ done.0 c.start_from-node.ensures done.1 _ _ done.2)
