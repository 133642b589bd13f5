-- Equations, and scripts.
use Rattle.std.specs.Prelude.{ℕ, ◌+◌, ◌*◌, ◌==◌, ◌&&◌, ◌||◌, not, nat_le, if◌then◌else◌, Bool, true, false, List, [], ◌∷◌, ◌++◌, map, take, drop, length, Option, Some, None, zero, suc, ◌-◌}
use Rattle.machine_text.specs.declared.table.Sym.{Sym}
use Rattle.machine_text.specs.declared.table.Sym.TheVariants.{Zero, One}
use Rattle.law_machines.specs.Terms.{repeat}
use Rattle.law_induction.specs.declared.scripts.Exponent.{Exponent}
use Rattle.law_induction.specs.declared.scripts.Exponents.{Exponents}
use Rattle.law_induction.specs.declared.scripts.Block.{Block}
use Rattle.law_induction.specs.declared.scripts.Equation.{Equation}
use Rattle.law_induction.specs.declared.scripts.Equation.TheVariants.{Split, Spell, Roll, Power, Empty, Blank}
use Rattle.law_induction.specs.Words.{exponent_limit, times_with, never_once, one_time, word_symbols, block_of, single, blocks_eq, symbols_eq, step_limit, half_block_limit, block_eq, Form, form_with, RuleForm}
use Rattle.machine_text.specs.declared.table.Dir.{Dir}
use Rattle.machine_text.specs.declared.table.Dir.TheVariants.{L, R}
use Rattle.machine_text.specs.declared.table.Entry.{Entry}
use Rattle.law_turing.specs.Terms.{Machine}
use Rattle.law_induction.specs.declared.scripts.Move.{Move}
use Rattle.law_induction.specs.declared.scripts.Move.TheVariants.{Steps, Turn, Use, Again, Together, Forth, Back}

-- Equations of rows of blocks, and numbers in place of variables.
infixl 10 ◌>>=◌
abbrev pub ◌>>=◌ : {A B : Type 0} → Option A → (A → Option B) → Option B
None >>= f = None
(Some a) >>= f = f a

-- a number that isn't too large
unfoldable pub within_limit : ℕ → Option ℕ
within_limit n = if nat_le n exponent_limit then Some n else None

-- sums and multiples
abbrev pub plus : Exponent → Exponent → Exponent
plus s t = times_with (s.ones + t.ones) (s.a + t.a) (s.b + t.b) (s.c + t.c) (s.d + t.d)

abbrev pub scaled : ℕ → Exponent → Exponent
scaled k t = times_with (k * t.ones) (k * t.a) (k * t.b) (k * t.c) (k * t.d)

unfoldable pub sum_of : Exponent → Exponent → Option Exponent
sum_of s t =
    within_limit (s.ones + t.ones) >>= λ n. within_limit (s.a + t.a) >>= λ a. within_limit (s.b + t.b) >>= λ b.
    within_limit (s.c + t.c) >>= λ c. within_limit (s.d + t.d) >>= λ d. Some (times_with n a b c d)

unfoldable pub product_of : ℕ → Exponent → Option Exponent
product_of k t =
    within_limit (k * t.ones) >>= λ n. within_limit (k * t.a) >>= λ a. within_limit (k * t.b) >>= λ b.
    within_limit (k * t.c) >>= λ c. within_limit (k * t.d) >>= λ d. Some (times_with n a b c d)

-- others in place of the variables
unfoldable pub substituted : Exponent → Exponents → Option Exponent
substituted t by =
    product_of t.a by.a >>= λ a. product_of t.b by.b >>= λ b. product_of t.c by.c >>= λ c. product_of t.d by.d >>= λ d.
    sum_of c d >>= λ cd. sum_of b cd >>= λ bcd. sum_of a bcd >>= λ abcd. sum_of (times_with t.ones 0 0 0 0) abcd

unfoldable pub instance_of : Exponents → List Block → Option (List Block)
instance_of by [] = Some []
instance_of by (x ∷ xs) = substituted x.times by >>= λ t. instance_of by xs >>= λ rest. Some (block_of x.word t ∷ rest)

-- the two sides of an equation, where it is one
pub record Sides : Type 0 where
  pub before : List Block
  pub after : List Block

abbrev pub sides_of : List Block → List Block → Sides
sides_of before after = record { before = before; after = after }

unfoldable pub are_blanks : List Sym → Bool
are_blanks [] = true
are_blanks (Zero ∷ l) = are_blanks l
are_blanks (One ∷ l) = false

unfoldable pub sides : Equation → Option Sides
sides (Split w e f) = sum_of e f >>= λ t. Some (sides_of (block_of w t ∷ []) (block_of w e ∷ block_of w f ∷ []))
sides (Spell w) = Some (sides_of (block_of w one_time ∷ []) (map single (word_symbols w)))
sides (Roll u w v e) =
    if symbols_eq (word_symbols u ++ word_symbols w) (word_symbols v ++ word_symbols u) then Some
    (sides_of (block_of u one_time ∷ block_of w e ∷ []) (block_of v e ∷ block_of u one_time ∷ [])) else None
sides (Power v w k e) =
    if nat_le k 63 && symbols_eq (word_symbols v) (repeat (word_symbols w) k []) then
    (product_of k e >>= λ t. Some (sides_of (block_of v e ∷ []) (block_of w t ∷ []))) else None
sides (Empty w) = Some (sides_of (block_of w never_once ∷ []) [])
sides (Blank w e) = if are_blanks (word_symbols w) then Some (sides_of (block_of w e ∷ []) []) else None

-- whether it holds at a blank end alone
abbrev pub is_at_end : Equation → Bool
is_at_end (Split w e f) = false
is_at_end (Spell w) = false
is_at_end (Roll u w v e) = false
is_at_end (Power v w k e) = false
is_at_end (Empty w) = false
is_at_end (Blank w e) = true

-- blocks in place of others that stand at a place
unfoldable pub replaced : ℕ → List Block → List Block → List Block → Option (List Block)
replaced place old new xs =
    if nat_le place (length xs) && blocks_eq old (take (length old) (drop place xs)) then Some
    (take place xs ++ (new ++ drop (length old) (drop place xs))) else None

-- an equation used on a half tape
unfoldable pub half_rewritten : Bool → Bool → ℕ → List Block → List Block → List Block → Option (List Block)
half_rewritten at_end open_end place old new xs =
    if not at_end || (not open_end && (place + length old == length xs)) then replaced place old new xs else None

-- Scripts: how they go from one form to another.

-- the symbol under the head, where it stands there by itself, and what is behind it
pub record Taken : Type 0 where
  pub symbol : Sym
  pub rest : List Block

abbrev pub taken_with : Sym → List Block → Taken
taken_with s rest = record { symbol = s; rest = rest }

unfoldable pub taken : List Block → Option Taken
taken [] = None
taken (x ∷ xs) =
    if block_eq x (single Zero) then Some (taken_with Zero xs)
    else if block_eq x (single One) then Some (taken_with One xs)
    else None

-- one step of the machine: the head is on a symbol, with these blocks on its two sides
abbrev pub moved_by : Dir → Entry → List Block → List Block → Form
moved_by L e left right = form_with left e.next.0 L (single e.write ∷ right)
moved_by R e left right = form_with (single e.write ∷ left) e.next.0 R right

abbrev pub entered : Option Entry → List Block → List Block → Option Form
entered None left right = None
entered (Some e) left right = Some (moved_by e.dir e left right)

abbrev pub stepped_to : Dir → Machine → ℕ → List Block → List Block → Option Form
stepped_to L m q left right = taken left >>= λ t. entered (m q t.symbol) t.rest right
stepped_to R m q left right = taken right >>= λ t. entered (m q t.symbol) left t.rest

unfoldable pub form_stepped : Machine → Form → Option Form
form_stepped m f = stepped_to f.heading m f.state f.left f.right

unfoldable pub steps_done : Machine → ℕ → Form → Option Form
steps_done m zero f = Some f
steps_done m (suc n) f = form_stepped m f >>= steps_done m n

-- the head turned
abbrev pub turned_to : Dir → ℕ → List Block → List Block → Option Form
turned_to L q left right = taken left >>= λ t. Some (form_with t.rest q R (single t.symbol ∷ right))
turned_to R q left right = taken right >>= λ t. Some (form_with (single t.symbol ∷ left) q L t.rest)

unfoldable pub form_turned : Form → Option Form
form_turned f = turned_to f.heading f.state f.left f.right

-- a rule used
unfoldable pub used_half : Bool → Bool → List Block → List Block → List Block → Option (List Block)
used_half rule_open open_end old new xs =
    if rule_open then replaced 0 old new xs
    else if open_end then None
    else if blocks_eq xs old then Some new
    else None

unfoldable pub half_by : Exponents → Bool → Bool → List Block → List Block → List Block → Option (List Block)
half_by by rule_open open_end old new xs =
    instance_of by old >>= λ x. instance_of by new >>= λ y. used_half rule_open open_end x y xs

abbrev pub same_side : Dir → Dir → Bool
same_side L L = true
same_side L R = false
same_side R L = false
same_side R R = true

unfoldable pub used : RuleForm → Exponents → Bool → Bool → Form → Option Form
used rule by open_left open_right f =
    if (f.state == rule.from.state) && same_side f.heading rule.from.heading then
    (half_by by rule.open_left open_left rule.from.left rule.to.left f.left >>= λ left.
    half_by by rule.open_right open_right rule.from.right rule.to.right f.right >>= λ right.
    Some (form_with left rule.to.state rule.to.heading right)) else None

-- what a script may use: the earlier rules, the rules of the group that is being proved by induction, the one of them
-- that is being proved, and which ends are open
pub record Setting : Type 0 where
  pub machine : Machine
  pub rules : List RuleForm
  pub group : List RuleForm
  pub again : Option RuleForm
  pub open_left : Bool
  pub open_right : Bool

-- a new half tape
abbrev pub with_side : Dir → List Block → Form → Form
with_side L xs f = form_with xs f.state f.heading f.right
with_side R xs f = form_with f.left f.state f.heading xs

abbrev pub half_of : Dir → Form → List Block
half_of L f = f.left
half_of R f = f.right

abbrev pub open_on : Dir → Setting → Bool
open_on L s = s.open_left
open_on R s = s.open_right

unfoldable pub equals : Setting → Dir → ℕ → Bool → List Block → List Block → Form → Option Form
equals s side place at_end old new f =
    half_rewritten at_end (open_on side s) place old new (half_of side f) >>= λ xs. Some (with_side side xs f)

-- the variable a for itself
abbrev pub again_by : Exponent → Exponent → Exponent → Exponents
again_by b c d = record { a = times_with 0 1 0 0 0; b = b; c = c; d = d }

-- a rule by its number
abbrev pub rule_at : List RuleForm → ℕ → Option RuleForm
rule_at [] k = None
rule_at (r ∷ rs) zero = Some r
rule_at (r ∷ rs) (suc k) = rule_at rs k

-- a rule of a group, before which so many rules are
unfoldable pub grouped_at : ℕ → List RuleForm → ℕ → Option RuleForm
grouped_at before group k = if nat_le before k then rule_at group (k - before) else None

-- one move, and a whole script
unfoldable pub done : Setting → Move → Form → Option Form
done s (Steps n) f = if nat_le n step_limit then steps_done s.machine n f else None
done s Turn f = form_turned f
done s (Use k by) f = rule_at s.rules k >>= λ rule. used rule by s.open_left s.open_right f
done s (Again b c d) f = s.again >>= λ rule. used rule (again_by b c d) s.open_left s.open_right f
done s (Together k b c d) f =
    grouped_at (length s.rules) s.group k >>= λ rule. used rule (again_by b c d) s.open_left s.open_right f
done s (Forth side place e) f = sides e >>= λ x. equals s side place (is_at_end e) x.before x.after f
done s (Back side place e) f = sides e >>= λ x. equals s side place (is_at_end e) x.after x.before f

-- a form that isn't too long, and a move from one
unfoldable pub small : Form → Option Form
small f = if nat_le (length f.left) half_block_limit && nat_le (length f.right) half_block_limit then Some f else None

unfoldable pub done_within : Setting → Move → Form → Option Form
done_within s x f = small f >>= done s x

unfoldable pub all_done : Setting → List Move → Form → Option Form
all_done s [] f = small f
all_done s (x ∷ xs) f = done_within s x f >>= all_done s xs

-- whether a script has a step of the machine
abbrev pub is_step : Move → Bool
is_step (Steps zero) = false
is_step (Steps (suc n)) = true
is_step Turn = false
is_step (Use k by) = false
is_step (Again b c d) = false
is_step (Together k b c d) = false
is_step (Forth side place e) = false
is_step (Back side place e) = false

unfoldable pub has_step : List Move → Bool
has_step [] = false
has_step (x ∷ xs) = is_step x || has_step xs

-- how many steps of the machine it has
abbrev pub move_steps : Move → ℕ
move_steps (Steps n) = n
move_steps Turn = 0
move_steps (Use k by) = 0
move_steps (Again b c d) = 0
move_steps (Together k b c d) = 0
move_steps (Forth side place e) = 0
move_steps (Back side place e) = 0

abbrev pub steps_in : List Move → ℕ
steps_in [] = 0
steps_in (x ∷ xs) = move_steps x + steps_in xs
