use Rattle.std.proofs.Common.{rules}
use Rattle.ngram_cps.proofs.KindLaws.{lists_made, lists_refused}
use Rattle.ngram_cps.proofs.fields.lists_from.Goals as goal

pub returns-in-Some : goal.returns-in-Some
returns-in-Some c = lists_made _ _ c.in-Some.ensures.some c.in-Some.ensures.lists (c.are_short.ensures.0 (search rules))

pub returns-in-None : goal.returns-in-None
returns-in-None c = lists_refused _ c.in-None.ensures.none (c.are_short.ensures.0 (search rules))
