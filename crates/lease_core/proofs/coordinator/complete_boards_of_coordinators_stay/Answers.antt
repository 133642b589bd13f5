use Rattle.lease_core.proofs.Finals.{coordinator_keeps}
use Rattle.lease_core.proofs.coordinator.complete_boards_of_coordinators_stay.Goals as goal

pub returns : goal.returns
returns c old new e answer gives = coordinator_keeps old e answer new gives
