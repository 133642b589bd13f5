use Rattle.ngram_cps.proofs.KindLaws.{lists_are_high}
use Rattle.ngram_cps.proofs.laws.list_texts_are_high.Goals as goal

pub returns-clause-left : goal.returns-clause-left
returns-clause-left c = λ s l. (lists_are_high s l).left

pub returns-clause-right : goal.returns-clause-right
returns-clause-right c = λ s l. (lists_are_high s l).right

pub returns-clause-local : goal.returns-clause-local
returns-clause-local c = λ s l. (lists_are_high s l).local
