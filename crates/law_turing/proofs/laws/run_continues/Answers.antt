use Rattle.law_turing.proofs.RunLaws.{from_add}
use Rattle.law_turing.proofs.laws.run_continues.Goals as goal

pub returns : goal.returns
returns c = from_add
