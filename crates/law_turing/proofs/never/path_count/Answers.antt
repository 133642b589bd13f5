use Rattle.law_turing.proofs.BackwardLaws.{wider_law, longer_wider}
use Rattle.law_turing.proofs.never.path_count.Goals as goal

pub returns : goal.returns
returns c = λ n m k limit paths all. (wider_law n m k limit paths all, longer_wider n m k limit paths all)
