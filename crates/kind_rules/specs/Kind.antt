-- Rules with induction as a kind of certificates.
use Rattle.std.specs.Prelude.{ℕ, nat_lt, if◌then◌else◌, is_some, List, [], ◌∷◌, Result, Ok, Err, ◌≡◌, codes}
use Rattle.text.specs.declared.fields.FieldFault.{FieldFault}
use Rattle.text.specs.declared.fields.FieldFault.TheVariants.{BadKind, BadList, TooLong}
use Rattle.kind_rules.specs.Limits.{rules_byte_limit}
use Rattle.kind_rules.specs.RuleTexts.{RuleTexts, rule_texts, rule_bytes, given_by, AreRuleTexts, AreWithinRuleLimits, AreRulesOf}
use Rattle.machine_text.specs.Terms.{entry_of}
use Rattle.law_induction.proofs.CertificateLaws.{certificate_never}
use Rattle.kind_evidence.specs.Terms.{Kind}

-- The fields of a record of rules with induction: how they are read and written.

-- six texts: how long they are together is judged before any of them
abbrev pub rules_by : RuleTexts → Result RuleTexts FieldFault
rules_by t =
    if nat_lt rules_byte_limit (rule_bytes t) then Err TooLong
    else if is_some (given_by t) then Ok t
    else Err BadList

-- rules, family, first, begin, next and loop, for a table of n states
abbrev pub rule_texts_by : ℕ → List (List ℕ) → Result RuleTexts FieldFault
rule_texts_by n (rules ∷ (family ∷ (first ∷ (begin ∷ (next ∷ (loop ∷ [])))))) =
    rules_by (rule_texts n rules family first begin next loop)
rule_texts_by n fields = Err BadKind

abbrev pub rule_fields : RuleTexts → List (List ℕ)
rule_fields t = t.rules ∷ (t.family ∷ (t.first ∷ (t.begin ∷ (t.next ∷ (t.loop ∷ [])))))

-- Rules with induction as a kind of certificates: how their fields are read and written, what they mean, and their law.

-- the texts give a certificate of the table; to judge it takes memory
abbrev pub rules_kind : Kind RuleTexts
rules_kind = record {
  letter = codes "R";
  by = rule_texts_by;
  fields = rule_fields;
  meaning = λ t. record {
    writable = AreRuleTexts t;
    made_for = λ n. t.states ≡ n;
    within = AreWithinRuleLimits t;
    wide = λ p. ⊥;
    overflows = λ p. ⊥;
    stands = λ p. AreRulesOf t p;
    unseen = λ p. ⊥;
    takes_memory = λ p. Unit {0};
  };
  law = λ t p table stands. certificate_never (entry_of p) stands.certificate stands.stand;
}
