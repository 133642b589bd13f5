use Rattle.std.proofs.Common.{rules, refl, ◌≡◌, Some, None, Ok, length}
use Rattle.std.proofs.lemmas.Result.{err_from_is_err_and}
use Rattle.cmd_dispatch.proofs.HostedCommands.{not_begun, with_workers}
use Rattle.cmd_dispatch.proofs.host.Host.run.Goals as goal

pub returns-in_err-workers : goal.returns-in_err-workers
returns-in_err-workers g c =
    let p = err_from_is_err_and c.from_residual.result c.from_residual.ensures.1 in
    rw p.1 (refl, not_begun (g.H.Files.tells_same c.args.self.now.files) (g.H.Files.holds c.args.self.now.files) c.args.ledger)

pub returns-in_err-late : goal.returns-in_err-late
returns-in_err-late g c =
    let p = err_from_is_err_and c.from_residual-in_err-late.result c.from_residual-in_err-late.ensures.1 in
    rw p.1 (refl, not_begun (g.H.Files.tells_same c.args.self.now.files) (g.H.Files.holds c.args.self.now.files) c.args.ledger)

pub returns-in-Some : goal.returns-in-Some
returns-in-Some g c =
    let count : length c.in_ok-workers.workers.items ≡ c.args.settling.now.workers = search rules in
    let is : c.args.ledger ≡ Some c.in-Some.file = search rules in
    with_workers _ _ _ _ _ _ c.in_ok-workers.workers.items (Some c.in-Some.file) _ _ c.run_kept.result is count c.run_kept.ensures

pub returns-in-None : goal.returns-in-None
returns-in-None g c =
    let count : length c.in_ok-workers.workers.items ≡ c.args.settling.now.workers = search rules in
    with_workers _ _ _ _ _ _ c.in_ok-workers.workers.items None _ _ (Ok c.run_alone.result) c.in-None.is count c.run_alone.ensures
