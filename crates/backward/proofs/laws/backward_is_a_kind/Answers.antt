use Rattle.backward.proofs.KindLaws.{backward_is_kind}
use Rattle.backward.proofs.laws.backward_is_a_kind.Goals as goal

pub returns : goal.returns
returns c = backward_is_kind
