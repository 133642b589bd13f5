use Rattle.std.proofs.Common.{ℕ}
use Rattle.law_machines.proofs.RuleLaws.{never_by_rules}
use Rattle.law_machines.proofs.zipper.rules_never.Goals as goal

pub returns : goal.returns
returns c = λ m at. never_by_rules m ℕ at
