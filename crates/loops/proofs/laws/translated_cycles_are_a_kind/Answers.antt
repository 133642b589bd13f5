use Rattle.loops.proofs.KindLaws.{translated_is_kind}
use Rattle.loops.proofs.laws.translated_cycles_are_a_kind.Goals as goal

pub returns : goal.returns
returns c = translated_is_kind
