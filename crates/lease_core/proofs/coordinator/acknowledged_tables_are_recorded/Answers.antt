use Rattle.lease_core.proofs.CoordinatorLedgers.{acknowledges}
use Rattle.lease_core.proofs.coordinator.acknowledged_tables_are_recorded.Goals as goal

pub returns : goal.returns
returns c = acknowledges
