-- How large rules with induction may be, and their texts.
use Rattle.std.specs.Prelude.{ℕ}

-- the most bytes of the six texts together, with the five spaces between them
abbrev pub rules_byte_limit : ℕ
rules_byte_limit = 49152

-- the most bytes of a form's text
abbrev pub form_byte_limit : ℕ
form_byte_limit = 300

-- what the 63rd symbol of a word is worth: no word has more symbols
abbrev pub symbol_weight_limit : ℕ
symbol_weight_limit = 4611686018427387904
