use Rattle.lease_core.proofs.CoordinatorLedgers.{starts, in_step}
use Rattle.lease_core.proofs.coordinator.Coordinator.start.Goals as goal

pub returns-clause-starts : goal.returns-clause-starts
returns-clause-starts c = starts c.args.n c.args.era c.args.ledger.now c.begun.result c.of.result.0 c.of.result.1 c.of.ensures.coordinator c.of.ensures.answer c.begun.ensures

pub returns-clause-step : goal.returns-clause-step
returns-clause-step c = in_step c.args.n c.args.era c.requires.0 c.requires.1 c.args.ledger.now c.begun.result c.of.result.0 c.of.result.1 c.of.ensures.coordinator c.of.ensures.answer c.begun.ensures
