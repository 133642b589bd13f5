use Rattle.law_turing.proofs.RunLaws.{table_machine}
use Rattle.law_turing.proofs.laws.table_is_machine.Goals as goal

pub returns : goal.returns
returns c = table_machine
