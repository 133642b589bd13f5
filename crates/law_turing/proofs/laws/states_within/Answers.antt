use Rattle.law_turing.proofs.Cycles.{states_within}
use Rattle.law_turing.proofs.laws.states_within.Goals as goal

pub returns : goal.returns
returns c = states_within
