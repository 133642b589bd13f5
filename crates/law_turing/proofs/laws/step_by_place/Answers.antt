use Rattle.law_turing.proofs.RunLaws.{takes, taken_takes, next_taken}
use Rattle.law_turing.proofs.laws.step_by_place.Goals as goal

pub returns : goal.returns
returns c = record { step = takes; entry = λ m c e is. (next_taken m c e is, taken_takes m c e is) }
