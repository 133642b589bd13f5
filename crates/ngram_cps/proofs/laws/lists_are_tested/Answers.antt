use Rattle.ngram_cps.proofs.KindLaws.{lists_decide}
use Rattle.ngram_cps.proofs.laws.lists_are_tested.Goals as goal

pub returns : goal.returns
returns c = lists_decide
