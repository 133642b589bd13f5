-- How words, exponents, forms, moves and rules are written. Bytes are their ASCII codes: 38 is `&`, 44 the comma, 46 the
-- dot, 58 the colon, 59 the semicolon, 94 `^`.
use Rattle.std.specs.Prelude.{ℕ, ◌+◌, ◌-◌, ◌*◌, ◌==◌, ◌&&◌, nat_lt, nat_le, if◌then◌else◌, Bool, true, false, List, [], ◌∷◌, Option, Some, None, length, take, drop, slice_index, position, codes}
use Rattle.std.specs.Str.{bytes_eq}
use Rattle.machine_text.specs.declared.table.Dir.{Dir}
use Rattle.machine_text.specs.declared.table.Dir.TheVariants.{L, R}
use Rattle.text.specs.Terms.{decimal_value, parts_of}
use Rattle.law_induction.specs.declared.scripts.Exponent.{Exponent}
use Rattle.law_induction.specs.declared.scripts.Exponents.{Exponents}
use Rattle.law_induction.specs.declared.scripts.Block.{Block}
use Rattle.law_induction.specs.declared.scripts.Equation.{Equation}
use Rattle.law_induction.specs.declared.scripts.Equation.TheVariants.{Split, Spell, Roll, Power, Empty, Blank}
use Rattle.law_induction.specs.declared.scripts.Move.{Move}
use Rattle.law_induction.specs.declared.scripts.Move.TheVariants.{Steps, Turn, Use, Again, Together, Forth, Back}
use Rattle.law_induction.specs.Terms.{exponent_limit, times_with, times_eq, never_once, one_time, block_of, Form, form_with, RuleForm, ◌>>=◌, Proved}
use Rattle.kind_rules.specs.Limits.{form_byte_limit, symbol_weight_limit}

-- a number that isn't too large, and one that isn't 0 either
unfoldable pub number_from : List ℕ → Option ℕ
number_from text = decimal_value text >>= λ n. if nat_le n exponent_limit then Some n else None

unfoldable pub factor_from : List ℕ → Option ℕ
factor_from text = number_from text >>= λ n. if n == 0 then None else Some n

-- the number of a word: its first symbol is worth 1, the next one 2, then 4; behind the last stands a one
unfoldable pub symbol_onto : ℕ → ℕ → ℕ → Option ℕ
symbol_onto weight number b =
    if nat_le weight symbol_weight_limit then
    (if b == 48 then Some number else if b == 49 then Some (number + weight) else None)
    else None

abbrev pub word_onto : ℕ → ℕ → List ℕ → Option ℕ
word_onto weight number [] = Some (number + weight)
word_onto weight number (b ∷ text) = symbol_onto weight number b >>= λ n. word_onto (2 * weight) n text

unfoldable pub word_from : List ℕ → Option ℕ
word_from text = if length text == 0 then None else word_onto 1 0 text

-- what stands before a letter, and the factor behind it, which is 0 where the letter isn't there
pub record Factored : Type 0 where
  pub before : List ℕ
  pub factor : ℕ

abbrev pub factored : List (List ℕ) → Option Factored
factored [] = None
factored (text ∷ []) = Some (record { before = text; factor = 0 })
factored (text ∷ (factor ∷ [])) = factor_from factor >>= λ k. Some (record { before = text; factor = k })
factored (text ∷ (factor ∷ (more ∷ parts))) = None

-- an exponent: a number, and the letters of the variables with their factors, in their order
unfoldable pub exponent_from : List ℕ → Option Exponent
exponent_from text =
    factored (parts_of 100 text) >>= λ d. factored (parts_of 99 d.before) >>= λ c.
    factored (parts_of 98 c.before) >>= λ b. factored (parts_of 97 b.before) >>= λ a.
    number_from a.before >>= λ n. Some (times_with n a.factor b.factor c.factor d.factor)

-- a block: a word, and behind `^` its exponent, unless it is once
abbrev pub block_of_parts : List (List ℕ) → Option Block
block_of_parts [] = None
block_of_parts (word ∷ []) = word_from word >>= λ w. Some (block_of w one_time)
block_of_parts (word ∷ (times ∷ [])) =
    word_from word >>= λ w. exponent_from times >>= λ t. if times_eq t one_time then None else Some (block_of w t)
block_of_parts (word ∷ (times ∷ (more ∷ parts))) = None

unfoldable pub block_from : List ℕ → Option Block
block_from text = block_of_parts (parts_of 94 text)

abbrev pub blocks_from : List (List ℕ) → Option (List Block)
blocks_from [] = Some []
blocks_from (part ∷ parts) = block_from part >>= λ block. blocks_from parts >>= λ blocks. Some (block ∷ blocks)

-- the blocks of a half tape, with dots between them; nothing for none
unfoldable pub half_from : List ℕ → Option (List Block)
half_from text = if length text == 0 then Some [] else blocks_from (parts_of 46 text)

-- the table's state that a letter names, and the half tape that a bracket points to
unfoldable pub form_state_from : ℕ → ℕ → Option ℕ
form_state_from states b = if nat_lt (b - 65) states then Some (b - 65) else None

abbrev pub heading_from : ℕ → Option Dir
heading_from b = if b == 60 then Some L else if b == 62 then Some R else None

-- a form: the left half, from the head outwards, a state's letter, a bracket, the right half. The letter is the first
-- byte from `A` to `Z`
unfoldable pub form_at : ℕ → List ℕ → ℕ → Option Form
form_at states text at =
    half_from (take at text) >>= λ left. form_state_from states (slice_index text at) >>= λ state.
    heading_from (slice_index text (at + 1)) >>= λ heading. half_from (drop (at + 2) text) >>= λ right.
    Some (form_with left state heading right)

abbrev pub is_capital : ℕ → Bool
is_capital b = nat_le 65 b && nat_le b 90

unfoldable pub form_from : ℕ → List ℕ → Option Form
form_from states text =
    if nat_le (length text) form_byte_limit then (position is_capital text >>= λ at. form_at states text at) else None

-- the next exponent of some, which is 0 where none is left, and those behind it
abbrev pub next_times : List (List ℕ) → Option Exponent
next_times [] = Some never_once
next_times (part ∷ parts) = exponent_from part

abbrev pub parts_behind : List (List ℕ) → List (List ℕ)
parts_behind [] = []
parts_behind (part ∷ parts) = parts

abbrev pub if_none : {A : Type 0} → List (List ℕ) → A → Option A
if_none [] x = Some x
if_none (part ∷ parts) x = None

-- exponents in place of the variables, at most four
unfoldable pub four_from : List (List ℕ) → Option Exponents
four_from parts =
    next_times parts >>= λ a. next_times (parts_behind parts) >>= λ b.
    next_times (parts_behind (parts_behind parts)) >>= λ c.
    next_times (parts_behind (parts_behind (parts_behind parts))) >>= λ d.
    if_none (parts_behind (parts_behind (parts_behind (parts_behind parts)))) (record { a = a; b = b; c = c; d = d })

-- the use of a rule: its number and the exponents; of the rule that is being proved, with exponents for b, c and d; and of
-- one that is proved together with it: its number and these
abbrev pub use_from : List (List ℕ) → Option Move
use_from [] = None
use_from (rule ∷ parts) = number_from rule >>= λ k. four_from parts >>= λ by. Some (Use k by)

abbrev pub again_from : List (List ℕ) → Option Move
again_from [] = None
again_from (nothing ∷ parts) =
    if length nothing == 0 then
    (next_times parts >>= λ b. next_times (parts_behind parts) >>= λ c.
    next_times (parts_behind (parts_behind parts)) >>= λ d.
    if_none (parts_behind (parts_behind (parts_behind parts))) (Again b c d))
    else None

abbrev pub together_from : List (List ℕ) → Option Move
together_from [] = None
together_from (rule ∷ parts) =
    number_from rule >>= λ k. next_times parts >>= λ b. next_times (parts_behind parts) >>= λ c.
    next_times (parts_behind (parts_behind parts)) >>= λ d.
    if_none (parts_behind (parts_behind (parts_behind parts))) (Together k b c d)

-- equations, by their small letters: 115 is `s`, 119 `w`, 114 `r`, 112 `p`, 101 `e`, 98 `b`
abbrev pub split_from : List (List ℕ) → Option Equation
split_from (word ∷ (first ∷ (second ∷ []))) =
    word_from word >>= λ w. exponent_from first >>= λ e. exponent_from second >>= λ f. Some (Split w e f)
split_from parts = None

abbrev pub spell_from : List (List ℕ) → Option Equation
spell_from (word ∷ []) = word_from word >>= λ w. Some (Spell w)
spell_from parts = None

abbrev pub roll_from : List (List ℕ) → Option Equation
roll_from (over ∷ (word ∷ (other ∷ (times ∷ [])))) =
    word_from over >>= λ u. word_from word >>= λ w. word_from other >>= λ v. exponent_from times >>= λ e.
    Some (Roll u w v e)
roll_from parts = None

abbrev pub power_from : List (List ℕ) → Option Equation
power_from (long ∷ (word ∷ (copies ∷ (times ∷ [])))) =
    word_from long >>= λ v. word_from word >>= λ w. number_from copies >>= λ k. exponent_from times >>= λ e.
    Some (Power v w k e)
power_from parts = None

abbrev pub empty_from : List (List ℕ) → Option Equation
empty_from (word ∷ []) = word_from word >>= λ w. Some (Empty w)
empty_from parts = None

abbrev pub blank_from : List (List ℕ) → Option Equation
blank_from (word ∷ (times ∷ [])) = word_from word >>= λ w. exponent_from times >>= λ e. Some (Blank w e)
blank_from parts = None

unfoldable pub equation_from : ℕ → List (List ℕ) → Option Equation
equation_from letter parts =
    if letter == 115 then split_from parts
    else if letter == 119 then spell_from parts
    else if letter == 114 then roll_from parts
    else if letter == 112 then power_from parts
    else if letter == 101 then empty_from parts
    else if letter == 98 then blank_from parts
    else None

-- an equation at a place of a half tape: a capital for its right side in place of its left side
unfoldable pub change_by : Dir → ℕ → ℕ → List (List ℕ) → Option Move
change_by side place letter parts =
    if is_capital letter then (equation_from (letter + 32) parts >>= λ e. Some (Back side place e))
    else (equation_from letter parts >>= λ e. Some (Forth side place e))

abbrev pub change_from : Dir → List (List ℕ) → Option Move
change_from side [] = None
change_from side (place ∷ parts) =
    if length place == 0 then None
    else (number_from (take (length place - 1) place) >>= λ at.
    change_by side at (slice_index place (length place - 1)) parts)

-- a move, by its first byte: 116 is `t`, 117 `u`, 105 `i`, 103 `g`, 108 `l`, 114 `r`; else it is a number of steps
unfoldable pub move_by : ℕ → List ℕ → List ℕ → Option Move
move_by letter rest text =
    if letter == 116 then (if length rest == 0 then Some Turn else None)
    else if letter == 117 then use_from (parts_of 46 rest)
    else if letter == 105 then again_from (parts_of 46 rest)
    else if letter == 103 then together_from (parts_of 46 rest)
    else if letter == 108 then change_from L (parts_of 46 rest)
    else if letter == 114 then change_from R (parts_of 46 rest)
    else (number_from text >>= λ n. Some (Steps n))

unfoldable pub move_named : List ℕ → Option Move
move_named text = if length text == 0 then None else move_by (slice_index text 0) (drop 1 text) text

abbrev pub moves_from : List (List ℕ) → Option (List Move)
moves_from [] = Some []
moves_from (part ∷ parts) = move_named part >>= λ move. moves_from parts >>= λ moves. Some (move ∷ moves)

-- a script: its moves with commas between them; nothing for none
unfoldable pub script_from : List ℕ → Option (List Move)
script_from text = if length text == 0 then Some [] else moves_from (parts_of 44 text)

-- an end, and both of them: `o` is open, `b` blank
abbrev pub end_from : ℕ → Option Bool
end_from b = if b == 111 then Some true else if b == 98 then Some false else None

pub record RuleEnds : Type 0 where
  pub open_left : Bool
  pub open_right : Bool

unfoldable pub ends_from : List ℕ → Option RuleEnds
ends_from text =
    if length text == 2 then
    (end_from (slice_index text 0) >>= λ left. end_from (slice_index text 1) >>= λ right.
    Some (record { open_left = left; open_right = right }))
    else None

unfoldable pub rule_form_from : ℕ → List ℕ → List ℕ → List ℕ → Option RuleForm
rule_form_from states ends from to =
    ends_from ends >>= λ e. form_from states from >>= λ f. form_from states to >>= λ g.
    Some (record { open_left = e.open_left; open_right = e.open_right; from = f; to = g })

-- a rule with its proof: one script, or two for a proof by induction
abbrev pub proved_from : RuleForm → List (List ℕ) → Option Proved
proved_from rule (script ∷ []) =
    script_from script >>= λ moves. Some (record { rule = rule; base = None; script = moves })
proved_from rule (base ∷ (script ∷ [])) =
    script_from base >>= λ first. script_from script >>= λ moves.
    Some (record { rule = rule; base = Some first; script = moves })
proved_from rule parts = None

abbrev pub rule_of_parts : ℕ → List (List ℕ) → Option Proved
rule_of_parts states (ends ∷ (from ∷ (to ∷ scripts))) =
    rule_form_from states ends from to >>= λ rule. proved_from rule scripts
rule_of_parts states parts = None

unfoldable pub rule_from : ℕ → List ℕ → Option Proved
rule_from states text = rule_of_parts states (parts_of 58 text)

abbrev pub rules_of_parts : ℕ → List (List ℕ) → Option (List Proved)
rules_of_parts states [] = Some []
rules_of_parts states (part ∷ parts) =
    rule_from states part >>= λ rule. rules_of_parts states parts >>= λ rules. Some (rule ∷ rules)

-- rules that are proved together, with `&` between them
unfoldable pub group_from : ℕ → List ℕ → Option (List Proved)
group_from states text = rules_of_parts states (parts_of 38 text)

abbrev pub groups_of_parts : ℕ → List (List ℕ) → Option (List (List Proved))
groups_of_parts states [] = Some []
groups_of_parts states (part ∷ parts) =
    group_from states part >>= λ group. groups_of_parts states parts >>= λ groups. Some (group ∷ groups)

-- groups, with semicolons between them; `-` for none
unfoldable pub groups_from : ℕ → List ℕ → Option (List (List Proved))
groups_from states text =
    if bytes_eq text (codes "-") then Some [] else groups_of_parts states (parts_of 59 text)
