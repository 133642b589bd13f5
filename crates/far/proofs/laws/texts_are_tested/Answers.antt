use Rattle.far.proofs.KindLaws.{texts_decide}
use Rattle.far.proofs.laws.texts_are_tested.Goals as goal

pub returns : goal.returns
returns c = texts_decide
