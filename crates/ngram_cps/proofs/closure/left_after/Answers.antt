use Rattle.ngram_cps.specs.inside.{left_after}
use Rattle.ngram_cps.proofs.closure.left_after.Goals as goal

pub returns-clause-text : goal.returns-clause-text
unfolding left_after
returns-clause-text c = rw (c.push.ensures, c.push_all.ensures, c.new-word.ensures)
