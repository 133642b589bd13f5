use Rattle.law_turing.proofs.Cycles.{rado_of_one}
use Rattle.law_turing.proofs.laws.rado_of_one.Goals as goal

pub returns : goal.returns
returns c = rado_of_one
