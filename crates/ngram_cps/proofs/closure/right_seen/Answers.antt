use Rattle.std.proofs.Common.{◌≡◌, ◌+◌, ◌-◌, ◌*◌, arith}
use Rattle.ngram_cps.specs.inside.{right_seen}
use Rattle.ngram_cps.proofs.closure.right_seen.Goals as goal

pub returns-clause-text : goal.returns-clause-text
unfolding right_seen
returns-clause-text c =
    let size : (2 * c.args.g + 2) - (c.args.g + 3) ≡ c.args.g - 1 = omega arith in
    rw (c.push.ensures, c.push_all.ensures, c.new-word.ensures, size)
