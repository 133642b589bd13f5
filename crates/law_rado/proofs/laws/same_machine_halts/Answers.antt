use Rattle.law_rado.proofs.SameMachineLaws.{machine_there, machine_back, same_states, same_halts, same_score}
use Rattle.law_rado.proofs.laws.same_machine_halts.Goals as goal

pub returns : goal.returns
returns c = record {
  there = machine_there;
  back = machine_back;
  states = λ t m n same. same_states t m same n;
  steps = λ t m k same. same_halts t m same k;
  score = λ t m s same. same_score t m same s;
}
