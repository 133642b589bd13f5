-- A claim by its texts, the certificate that they give, and the texts that are given.
use Rattle.std.specs.Prelude.{◌≡◌, ℕ, ◌+◌, ◌≤◌, ◌&&◌, nat_le, if◌then◌else◌, Bool, true, IsTrue, is_some, List, [], ◌∷◌, length, take, drop, Option, Some, None}
use Rattle.machine_text.specs.Terms.{state_limit, Packed, entry_of}
use Rattle.text.specs.Terms.{parts_of}
use Rattle.law_induction.specs.Terms.{◌>>=◌, Certificate, is_certificate}
use Rattle.kind_rules.specs.Limits.{rules_byte_limit}
use Rattle.kind_rules.specs.Texts.{form_from, four_from, script_from, groups_from}
use Rattle.kind_rules.specs.declared.texts_given.TextsGiven.{TextsGiven}

-- A claim by its texts, and the certificate that they give.

-- how many states the tables have for which it is made, and the texts of the rules, of the family, of its exponents at
-- first, of the script that leads there, of the exponents that come next, and of the script that leads to those
pub record RuleTexts : Type 0 where
  pub states : ℕ
  pub rules : List ℕ
  pub family : List ℕ
  pub first : List ℕ
  pub begin : List ℕ
  pub next : List ℕ
  pub loop : List ℕ

abbrev pub rule_texts : ℕ → List ℕ → List ℕ → List ℕ → List ℕ → List ℕ → List ℕ → RuleTexts
rule_texts states rules family first begin next loop = record {
  states = states;
  rules = rules;
  family = family;
  first = first;
  begin = begin;
  next = next;
  loop = loop;
}

-- the same as one text, by how many bytes the first five have
unfoldable pub texts_in : ℕ → ℕ → ℕ → ℕ → ℕ → ℕ → List ℕ → RuleTexts
texts_in states rules family first begin next text = rule_texts states (take rules text)
    (take family (drop rules text))
    (take first (drop family (drop rules text)))
    (take begin (drop first (drop family (drop rules text))))
    (take next (drop begin (drop first (drop family (drop rules text)))))
    (drop next (drop begin (drop first (drop family (drop rules text)))))

-- each byte is above the space: so there is neither a space nor a newline
abbrev pub are_high : List ℕ → Bool
are_high [] = true
are_high (b ∷ text) = nat_le 33 b && are_high text

unfoldable pub all_high : RuleTexts → Bool
all_high t =
    are_high t.rules
    && (are_high t.family
    && (are_high t.first && (are_high t.begin && (are_high t.next && are_high t.loop))))

-- the certificate that the texts give
unfoldable pub certificate_in : RuleTexts → Option Certificate
certificate_in t =
    groups_from t.states t.rules >>= λ groups. form_from t.states t.family >>= λ family.
    four_from (parts_of 46 t.first) >>= λ first. script_from t.begin >>= λ begin.
    four_from (parts_of 46 t.next) >>= λ next. script_from t.loop >>= λ loop.
    Some (record { groups = groups; family = family; first = first; begin = begin; next = next; loop = loop })

-- where they are those of a record
unfoldable pub given_by : RuleTexts → Option Certificate
given_by t = if all_high t then certificate_in t else None

-- how many bytes they are together, with the spaces between them
abbrev pub rule_bytes : RuleTexts → ℕ
rule_bytes t =
    length t.rules + length t.family + length t.first + length t.begin + length t.next + length t.loop + 5

-- the texts are within the limits
pub record AreWithinRuleLimits (t : RuleTexts) : Type 0 where
  pub short : rule_bytes t ≤ rules_byte_limit
  pub made : 1 ≤ t.states
  pub few : t.states ≤ state_limit

-- and give a certificate
pub record AreRuleTexts (t : RuleTexts) : Type 0 where
  pub given : IsTrue (is_some (given_by t))
  pub within : AreWithinRuleLimits t

-- the table has as many states as they were made for, and the texts are those of a certificate of it
pub record AreRulesOf (t : RuleTexts) (p : Packed) : Type 0 where
  pub certificate : Certificate
  pub given : given_by t ≡ Some certificate
  pub states : t.states ≡ p.states
  pub stand : is_certificate (entry_of p) certificate ≡ true

-- The texts that are given.
abbrev pub rule_texts_given : TextsGiven → RuleTexts
rule_texts_given t = rule_texts t.states t.rules.now t.family.now t.first.now t.begin.now t.next.now t.again.now
