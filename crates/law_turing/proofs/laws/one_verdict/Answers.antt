use Rattle.law_turing.proofs.laws.one_verdict.Goals as goal

pub returns : goal.returns
returns c = λ m k s never. never k s
