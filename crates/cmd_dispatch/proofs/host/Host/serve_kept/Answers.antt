use Rattle.std.proofs.Common.{rules, inr}
use Rattle.cmd_dispatch.proofs.HostedCommands.{served_kept}
use Rattle.cmd_dispatch.proofs.host.Host.serve_kept.Goals as goal

pub returns : goal.returns
returns g c =
    let put = rw c.serve_over-ended.ensures.files at c.close.ensures.put in
    let serves = c.serve_over-ended.ensures.serves in
    inr (served_kept _ _ _ _ (g.H.Files.tells_same c.at.new.files) _ (g.H.Files.holds c.at.new.files) _ c.args.file _ _ _ _ _ _ _ _ _ c.serve_over-ended.result serves c.in_ok-held.ensures.tells put (search rules))
