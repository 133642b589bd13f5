use Rattle.std.proofs.Common.{◌∙◌, [], inr, subst}
use Rattle.machine_text.specs.Terms.{Packed}
use Rattle.ledger.specs.Terms.{HasHeader}
use Rattle.lease_core.proofs.starting.begun.Goals as goal

pub returns-in-Ok : goal.returns-in-Ok
returns-in-Ok c =
    let fed = c.in-Ok.ensures.ok in
    c.begun_by.ensures c.args.n c.args.ledger.now (fed.root ∙ c.empty_loader-loader.ensures.root) (fed.stands [] c.empty_loader-loader.ensures.stands)

pub returns-in-Err : goal.returns-in-Err
returns-in-Err c =
    let header = c.in-Err.ensures.stopped.header [] c.empty_loader-loader.ensures.stands in
    inr (header.0, subst (λ (p : Packed). HasHeader c.args.ledger.now p header.0) c.empty_loader-loader.ensures.root header.1)
