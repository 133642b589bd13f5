use Rattle.lease_core.proofs.CoordinatorLedgers.{starts_from}
use Rattle.lease_core.proofs.coordinator.Coordinator.start_from.Goals as goal

pub returns : goal.returns
returns g c = starts_from c.args.n c.args.era c.requires.0 c.requires.1 (g.R.Read.remaining c.args.from.now) c.args.limit (g.R.Read.remaining c.begun_from.new.from) c.begun_from.result
    c.of.result.0 c.of.result.1 c.of.ensures.coordinator c.of.ensures.answer c.begun_from.ensures
