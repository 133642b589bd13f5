use Rattle.law_turing.proofs.RunLaws.{halts_with, score_is, score_within}
use Rattle.law_turing.proofs.laws.one_score.Goals as goal

pub returns : goal.returns
returns c = record { some = halts_with; one = score_is; within = score_within }
