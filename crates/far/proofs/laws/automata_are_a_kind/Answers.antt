use Rattle.far.proofs.KindLaws.{far_is_kind}
use Rattle.far.proofs.laws.automata_are_a_kind.Goals as goal

pub returns : goal.returns
returns c = far_is_kind
