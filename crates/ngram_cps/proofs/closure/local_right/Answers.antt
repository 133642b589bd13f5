use Rattle.std.proofs.Common.{append_assoc}
use Rattle.ngram_cps.specs.inside.{local_right}
use Rattle.ngram_cps.proofs.closure.local_right.Goals as goal

pub returns : goal.returns
unfolding local_right
returns c =
    rw (c.push_all.ensures, c.push-2.ensures, c.push.ensures, c.left_after-local.ensures.text, c.as_slice.ensures, c.right_seen.ensures.text) (simp append_assoc)
