use Rattle.law_rado.proofs.SameMachineLaws.{greatest_score}
use Rattle.law_rado.proofs.laws.sigma_is_greatest_score.Goals as goal

pub returns : goal.returns
returns c = greatest_score
