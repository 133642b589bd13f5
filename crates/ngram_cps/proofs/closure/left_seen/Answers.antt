use Rattle.ngram_cps.specs.inside.{left_seen}
use Rattle.ngram_cps.proofs.closure.left_seen.Goals as goal

pub returns-clause-text : goal.returns-clause-text
unfolding left_seen
returns-clause-text c = rw (c.push_all.ensures, c.push.ensures, c.new-word.ensures)
