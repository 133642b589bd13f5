use Rattle.std.proofs.Common.{append_assoc}
use Rattle.ngram_cps.specs.inside.{local_left}
use Rattle.ngram_cps.proofs.closure.local_left.Goals as goal

pub returns : goal.returns
unfolding local_left
returns c =
    rw (c.push_all.ensures, c.push-2.ensures, c.push.ensures, c.left_seen-local.ensures.text, c.as_slice.ensures, c.right_after.ensures.text) (simp append_assoc)
