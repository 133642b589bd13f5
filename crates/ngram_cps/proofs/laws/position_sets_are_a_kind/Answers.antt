use Rattle.ngram_cps.proofs.KindLaws.{ngram_is_kind}
use Rattle.ngram_cps.proofs.laws.position_sets_are_a_kind.Goals as goal

pub returns : goal.returns
returns c = ngram_is_kind
