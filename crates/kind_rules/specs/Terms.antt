-- The terms of this crate: what others cite of its definitions, under one name.
pub use Rattle.kind_rules.specs.Claims.{owned_rule_texts, rule_texts_of}
pub use Rattle.kind_rules.specs.Kind.{rules_kind}
pub use Rattle.kind_rules.specs.RuleTexts.{RuleTexts}
