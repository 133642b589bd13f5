use Rattle.std.proofs.Common.{◌≡◌, ◌+◌, ◌-◌, ◌*◌, arith}
use Rattle.ngram_cps.specs.inside.{right_after}
use Rattle.ngram_cps.proofs.closure.right_after.Goals as goal

pub returns-clause-text : goal.returns-clause-text
unfolding right_after
returns-clause-text c =
    let size : (2 * c.args.g + 1) - (c.args.g + 2) ≡ c.args.g - 1 = omega arith in
    rw (c.push_all.ensures, c.push.ensures, c.new-word.ensures, size)
