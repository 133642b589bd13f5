use Rattle.std.proofs.Common.{◌∙◌, [], Err, subst, sym}
use Rattle.lease_core.specs.inside.Begun.{BeginsFrom}
use Rattle.lease_core.specs.declared.starting.StartFault.{StartFault}
use Rattle.lease_core.proofs.CoordinatorLedgers.{begins_all, stops_from}
use Rattle.lease_core.proofs.starting.begun_from.Goals as goal

pub returns-in-Ok : goal.returns-in-Ok
returns-in-Ok g c =
    let fed = c.in-Ok.ensures.ok in
    begins_all c.args.n (g.R.Read.remaining c.args.from.now) c.args.limit (g.R.Read.remaining c.feed_from.new.from) fed.0 c.begun_by.result fed.1
    (c.begun_by.ensures c.args.n fed.0 (fed.2.root ∙ c.empty_loader-loader.ensures.root) (fed.2.stands [] c.empty_loader-loader.ensures.stands))

pub returns-in-Err : goal.returns-in-Err
returns-in-Err g c = subst (λ (f : StartFault). BeginsFrom c.args.n (g.R.Read.remaining c.args.from.now) c.args.limit (g.R.Read.remaining c.feed_from.new.from) (Err f)) (sym c.from.ensures)
    (stops_from c.args.n (g.R.Read.remaining c.args.from.now) c.args.limit (g.R.Read.remaining c.feed_from.new.from) c.empty_loader-loader.result c.feed_from.new.self c.in-Err.stop
    c.empty_loader-loader.ensures.root c.empty_loader-loader.ensures.stands c.in-Err.ensures.stopped)
