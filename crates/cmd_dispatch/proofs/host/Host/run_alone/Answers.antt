use Rattle.std.proofs.Common.{ap}
use Rattle.cmd_dispatch.proofs.HostedCommands.{ran_alone}
use Rattle.cmd_dispatch.proofs.host.Host.run_alone.Goals as goal

pub returns : goal.returns
returns g c =
    ran_alone _ _ _ _ _ _ _ _ _ _ _ _ (ap g.H.Files.holds c.run_over.ensures.files) c.nothing-held.ensures c.run_over.ensures.runs
