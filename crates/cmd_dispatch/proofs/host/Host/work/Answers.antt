use Rattle.std.proofs.Common.{inl, inr, refl}
use Rattle.std.proofs.lemmas.Result.{err_from_is_err_and}
use Rattle.cmd_dispatch.proofs.host.Host.work.Goals as goal

pub returns-in_err-token : goal.returns-in_err-token
returns-in_err-token g c =
    let p = err_from_is_err_and c.from_residual.result c.from_residual.ensures.1 in
    inl (p.0, p.1, (refl, refl))

pub returns-in_err-pool : goal.returns-in_err-pool
returns-in_err-pool g c =
    let p = err_from_is_err_and c.from_residual-in_err-pool.result c.from_residual-in_err-pool.ensures.1 in
    inl (p.0, p.1, (refl, refl))

pub returns : goal.returns
returns g c = inr c.work_for.ensures
