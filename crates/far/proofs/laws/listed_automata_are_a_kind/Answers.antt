use Rattle.far.proofs.KindLaws.{listed_is_kind}
use Rattle.far.proofs.laws.listed_automata_are_a_kind.Goals as goal

pub returns : goal.returns
returns c = listed_is_kind
