use Rattle.lease_core.proofs.Finals.{coordinator_keeps}
use Rattle.lease_core.proofs.CoordinatorLedgers.{on_step}
use Rattle.lease_core.proofs.coordinator.CoordinatorNode.on.Goals as goal

pub returns-clause-final_kept : goal.returns-clause-final_kept
returns-clause-final_kept c = coordinator_keeps _ _ _ _ c.handle.ensures

pub returns-clause-step : goal.returns-clause-step
returns-clause-step c = on_step _ _ _ _ c.knows_board.ensures c.handle.ensures
