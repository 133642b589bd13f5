use Rattle.std.proofs.Common.{rules}
use Rattle.cmd_dispatch.proofs.HostedCommands.{ran_kept}
use Rattle.cmd_dispatch.proofs.host.Host.run_kept.Goals as goal

pub returns : goal.returns
returns g c =
    let put = rw c.run_over-outcome.ensures.files at c.close.ensures.put in
    ran_kept _ _ _ (g.H.Files.tells_same c.at.new.files) _ (g.H.Files.holds c.at.new.files) _ c.args.file _ _ _ _ _ _ _ c.run_over-outcome.ensures.runs c.in_ok-held.ensures.tells put (search rules)
