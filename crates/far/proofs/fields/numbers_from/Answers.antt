use Rattle.far.proofs.KindLaws.{numbers_made, numbers_refused}
use Rattle.far.proofs.fields.numbers_from.Goals as goal

pub returns-in-Some : goal.returns-in-Some
returns-in-Some c = numbers_made _ _ _ _ _ _ _ c.in-Some.ensures.some c.in-Some.ensures.texts

pub returns-in-None : goal.returns-in-None
returns-in-None c = numbers_refused _ _ _ _ _ _ c.in-None.ensures.none
