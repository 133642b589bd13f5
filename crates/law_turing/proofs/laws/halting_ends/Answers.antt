use Rattle.law_turing.proofs.RunLaws.{ended}
use Rattle.law_turing.proofs.laws.halting_ends.Goals as goal

pub returns : goal.returns
returns c = ended
