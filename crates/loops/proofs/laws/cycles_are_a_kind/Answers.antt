use Rattle.loops.proofs.KindLaws.{cycle_is_kind}
use Rattle.loops.proofs.laws.cycles_are_a_kind.Goals as goal

pub returns : goal.returns
returns c = cycle_is_kind
