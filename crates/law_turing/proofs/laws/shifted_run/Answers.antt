use Rattle.law_turing.proofs.Renaming.{shifted_run}
use Rattle.law_turing.proofs.laws.shifted_run.Goals as goal

pub returns : goal.returns
returns c = shifted_run
