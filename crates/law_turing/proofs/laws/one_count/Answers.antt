use Rattle.law_turing.proofs.RunLaws.{one_count, one_end}
use Rattle.law_turing.proofs.laws.one_count.Goals as goal

pub returns : goal.returns
returns c = record { count = one_count; end = one_end }
