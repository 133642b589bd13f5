use Rattle.law_turing.proofs.RunLaws.{exists_at, never_where_always}
use Rattle.law_turing.proofs.laws.never_is_always.Goals as goal

pub returns : goal.returns
returns c = λ m. (exists_at m, never_where_always m)
