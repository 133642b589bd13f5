use Rattle.std.proofs.Common.{refl}
use Rattle.cmd_dispatch.proofs.HostedCommands.{worked_between}
use Rattle.cmd_dispatch.proofs.host.Host.work_for.Goals as goal

pub returns-in-Some : goal.returns-in-Some
returns-in-Some g c = rw c.in-Some.is ((refl, refl), c.work_called.ensures)

pub returns-in-None : goal.returns-in-None
returns-in-None g c = rw c.in-None.is (worked_between c.work_between.result _ c.work_between.ensures.ok c.work_between.ensures.err)
