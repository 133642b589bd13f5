use Rattle.law_rado.proofs.SameMachineLaws.{greatest_steps}
use Rattle.law_rado.proofs.laws.rado_is_greatest_steps.Goals as goal

pub returns : goal.returns
returns c = greatest_steps
