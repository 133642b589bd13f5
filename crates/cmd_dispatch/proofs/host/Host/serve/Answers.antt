use Rattle.std.proofs.Common.{inl, inr, refl}
use Rattle.std.proofs.lemmas.Result.{err_from_is_err_and}
use Rattle.cmd_dispatch.proofs.HostedCommands.{not_begun, served}
use Rattle.cmd_dispatch.proofs.host.Host.serve.Goals as goal

pub returns-in_err-connections : goal.returns-in_err-connections
returns-in_err-connections g c =
    let p = err_from_is_err_and c.from_residual.result c.from_residual.ensures.1 in
    inl (p.0, p.1, refl, not_begun (g.H.Files.tells_same c.args.self.now.files) (g.H.Files.holds c.args.self.now.files) c.args.ledger)

pub returns-in-Some : goal.returns-in-Some
returns-in-Some g c =
    rw c.in-Some.is (served _ _ _ _ _ _ _ _ _ _ _ _ _ c.serve_kept.result c.in_ok-connections.ensures c.serve_kept.ensures)

pub returns : goal.returns
returns g c =
    rw c.in-None.is (inr (_, _, c.in_ok-connections.conduct, c.in_ok-connections.ensures, c.serve_alone.ensures))
