use Rattle.std.proofs.Common.{◌∙◌}
use Rattle.std.proofs.lemmas.Result.{err_from_is_err_and}
use Rattle.lease_core.proofs.CoordinatorLedgers.{refused_so, cant_so, begins_so}
use Rattle.lease_core.proofs.starting.begun_by.Goals as goal

pub returns-in_ok-held-in-Ok : goal.returns-in_ok-held-in-Ok
returns-in_ok-held-in-Ok c = λ n text is stands.
    begins_so c.args.loader.root text c.in-Ok.board c.in-Ok.left c.root.result.now c.in_ok-held-in-Ok.held c.in_ok-out-in-Ok.out n is (c.in-Ok.ensures text stands) c.root.ensures.root
    (c.in_ok-out-in-Ok.ensures text (c.bytes-bytes.ensures ∙ stands.bytes)) c.in_ok-held-in-Ok.ensures

pub returns-in_err-held-in-Ok : goal.returns-in_err-held-in-Ok
returns-in_err-held-in-Ok c = λ n text is stands.
    let p = err_from_is_err_and c.from_residual-in_err-held-in-Ok.result c.from_residual-in_err-held-in-Ok.ensures.1 in
    rw (p.1, p.2) (refused_so c.args.loader.root n is text c.in-Ok.board c.in-Ok.left (c.in-Ok.ensures text stands))

pub returns-in-Err : goal.returns-in-Err
returns-in-Err c = λ n text is stands. cant_so c.args.loader.root n is text c.in-Err.fault c.from.result c.from.ensures (c.in-Err.ensures text stands)
