use Rattle.std.proofs.Common.{subst, sym}
use Rattle.cmd_nodes.specs.Faults.{IsOwnFault}
use Rattle.cmd_nodes.proofs.NodeRounds.{own_fault}
use Rattle.cmd_nodes.proofs.calling.kept.Goals as goal

pub returns-in-Err : goal.returns-in-Err
returns-in-Err c = subst IsOwnFault (sym c.in_memory.ensures) (own_fault c.in-Err.fault)
