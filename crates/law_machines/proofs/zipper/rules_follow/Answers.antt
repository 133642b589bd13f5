use Rattle.law_machines.proofs.RuleLaws.{run, run⁺, weakened, ◌⨾◌, ◌⁺⨾◌, ◌⨾⁺◌}
use Rattle.law_machines.proofs.zipper.rules_follow.Goals as goal

pub returns : goal.returns
returns c = record {
  steps = run;
  some_steps = run⁺;
  weaker = λ m z w g. weakened g;
  both = λ m z w v f g. f ⨾ g;
  first = λ m z w v f g. f ⁺⨾ g;
  second = λ m z w v f g. f ⨾⁺ g;
}
