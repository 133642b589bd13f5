use Rattle.law_turing.proofs.Cycles.{head_reach}
use Rattle.law_turing.proofs.laws.head_reach.Goals as goal

pub returns : goal.returns
returns c = head_reach
