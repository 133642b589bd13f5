use Rattle.std.proofs.Common.{ap}
use Rattle.cmd_dispatch.proofs.HostedCommands.{served_alone}
use Rattle.cmd_dispatch.proofs.host.Host.serve_alone.Goals as goal

pub returns : goal.returns
returns g c =
    served_alone _ _ _ _ _ _ _ _ _ _ _ _ _ _ _ c.serve_over.result (ap g.H.Files.holds c.serve_over.ensures.files) c.nothing-held.ensures c.serve_over.ensures.serves
