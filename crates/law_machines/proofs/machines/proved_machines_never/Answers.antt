use Rattle.law_machines.proofs.Proved.{machines_never, table_never}
use Rattle.law_machines.proofs.machines.proved_machines_never.Goals as goal

pub returns : goal.returns
returns c = record { named = machines_never; never = table_never }
