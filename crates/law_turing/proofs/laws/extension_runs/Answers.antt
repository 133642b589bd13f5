use Rattle.law_turing.specs.Run.{start}
use Rattle.law_turing.proofs.RunLaws.{same_run}
use Rattle.law_turing.proofs.laws.extension_runs.Goals as goal

pub returns : goal.returns
returns c = λ big m x k c is. same_run big m x k start c is
