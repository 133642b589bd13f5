use Rattle.std.proofs.Common.{rules}
use Rattle.cmd_dispatch.proofs.HostedCommands.{written}
use Rattle.cmd_dispatch.proofs.host.Host.coord_kept.Goals as goal

pub returns : goal.returns
returns g c =
    let opened = c.at.new.files in (
      _,
      _,
      _,
      written _ _ (g.H.Files.tells_same opened) _ (g.H.Files.holds opened) _ c.args.file _ _ _ (search rules) c.in_ok-held.ensures.tells c.close.ensures.put,
      c.cmd_coord-outcome.ensures,
    )
