use Rattle.law_turing.proofs.RunLaws.{before}
use Rattle.law_turing.proofs.laws.earlier_times.Goals as goal

pub returns : goal.returns
returns c = before
