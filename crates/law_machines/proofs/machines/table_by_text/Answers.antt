use Rattle.law_machines.proofs.Proved.{by_text}
use Rattle.law_machines.proofs.machines.table_by_text.Goals as goal

pub returns : goal.returns
returns c = by_text
