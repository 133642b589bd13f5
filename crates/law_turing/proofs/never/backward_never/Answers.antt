use Rattle.law_turing.proofs.BackwardLaws.{backward_never}
use Rattle.law_turing.proofs.never.backward_never.Goals as goal

pub returns : goal.returns
returns c = backward_never
