-- The texts of a claim, and those of one that owns them.
use Rattle.kind_rules.specs.RuleTexts.{RuleTexts, texts_in, rule_texts_given}
use Rattle.kind_rules.specs.declared.rules.Rules.{Rules}
use Rattle.kind_rules.specs.declared.rules.OwnedRules.{OwnedRules}

abbrev pub rule_texts_of : Rules → RuleTexts
rule_texts_of e = rule_texts_given e.texts

abbrev pub owned_rule_texts : OwnedRules → RuleTexts
owned_rule_texts o = texts_in o.states o.rule_bytes o.family_bytes o.first_bytes o.begin_bytes o.next_bytes o.text.items
