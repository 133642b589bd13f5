use Rattle.kind_rules.proofs.RuleLaws.{rules_are_kind}
use Rattle.kind_rules.proofs.laws.rules_are_a_kind.Goals as goal

pub returns : goal.returns
returns c = rules_are_kind
