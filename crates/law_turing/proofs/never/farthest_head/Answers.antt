use Rattle.law_turing.proofs.Cycles.{farthest_first, farthest_same, farthest_new, one_farthest}
use Rattle.law_turing.proofs.never.farthest_head.Goals as goal

pub returns : goal.returns
returns c = record { first = farthest_first; same = farthest_same; farther = farthest_new; one = one_farthest }
