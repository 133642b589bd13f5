-- Words, blocks and forms of configurations.
use Rattle.std.specs.Prelude.{ℕ, zero, suc, ◌+◌, ◌*◌, ◌/◌, ◌%◌, ◌==◌, ◌&&◌, nat_le, if◌then◌else◌, Bool, true, false, List, [], ◌∷◌, ◌≡◌}
use Rattle.std.specs.Cmp.Lexicographic.{pointwise}
use Rattle.machine_text.specs.declared.table.Sym.{Sym}
use Rattle.machine_text.specs.declared.table.Sym.TheVariants.{Zero, One}
use Rattle.law_machines.specs.Terms.{repeat, Zipper, AtLeft, AtRight, Comes}
use Rattle.law_induction.specs.declared.scripts.Exponent.{Exponent}
use Rattle.law_induction.specs.declared.scripts.Block.{Block}
use Rattle.machine_text.specs.declared.table.Dir.{Dir}
use Rattle.machine_text.specs.declared.table.Dir.TheVariants.{L, R}
use Rattle.law_turing.specs.Terms.{Machine}

-- Words by numbers, blocks and the half tapes that they are.

-- the most steps of one move, and of all moves of a certificate together
unfoldable pub step_limit : ℕ
step_limit = 10000

unfoldable pub all_steps_limit : ℕ
all_steps_limit = 2000000

-- the most blocks of a half tape
unfoldable pub half_block_limit : ℕ
half_block_limit = 2000

-- the greatest number that may come up
unfoldable pub exponent_limit : ℕ
exponent_limit = 1000000

-- numbers for the variables
pub record Values : Type 0 where
  pub a : ℕ
  pub b : ℕ
  pub c : ℕ
  pub d : ℕ

-- how often that is
abbrev pub value : Exponent → Values → ℕ
value t v = t.ones + (t.a * v.a + (t.b * v.b + (t.c * v.c + t.d * v.d)))

abbrev pub times_with : ℕ → ℕ → ℕ → ℕ → ℕ → Exponent
times_with n a b c d = record { ones = n; a = a; b = b; c = c; d = d }

abbrev pub never_once : Exponent
never_once = times_with 0 0 0 0 0

abbrev pub one_time : Exponent
one_time = times_with 1 0 0 0 0

-- the symbols of a word: its digits behind the leading one, the last digit first
abbrev pub digit : ℕ → Sym
digit zero = Zero
digit (suc n) = One

abbrev pub symbols_in : ℕ → ℕ → List Sym
symbols_in zero n = []
symbols_in (suc more) n = if nat_le n 1 then [] else digit (n % 2) ∷ symbols_in more (n / 2)

unfoldable pub word_symbols : ℕ → List Sym
word_symbols word = symbols_in 63 word

abbrev pub block_of : ℕ → Exponent → Block
block_of word times = record { word = word; times = times }

-- the word of one symbol, once
abbrev pub single_word : Sym → ℕ
single_word Zero = 2
single_word One = 3

abbrev pub single : Sym → Block
single s = block_of (single_word s) one_time

-- the cells of blocks before a half tape
abbrev pub cells : List Block → Values → List Sym → List Sym
cells [] v l = l
cells (b ∷ bs) v l = repeat (word_symbols b.word) (value b.times v) (cells bs v l)

-- whether blocks, symbols are the same
abbrev pub times_eq : Exponent → Exponent → Bool
times_eq s t = (s.ones == t.ones) && ((s.a == t.a) && ((s.b == t.b) && ((s.c == t.c) && (s.d == t.d))))

abbrev pub block_eq : Block → Block → Bool
block_eq x y = (x.word == y.word) && times_eq x.times y.times

abbrev pub blocks_eq : List Block → List Block → Bool
blocks_eq = pointwise block_eq

abbrev pub symbol_eq : Sym → Sym → Bool
symbol_eq Zero Zero = true
symbol_eq Zero One = false
symbol_eq One Zero = false
symbol_eq One One = true

abbrev pub symbols_eq : List Sym → List Sym → Bool
symbols_eq = pointwise symbol_eq

-- Forms of configurations: zippers with variables, before half tapes that may be any.

-- the blocks of the two half tapes, the ones nearest to the head first, the state, and on which half tape the head is
pub record Form : Type 0 where
  pub left : List Block
  pub state : ℕ
  pub heading : Dir
  pub right : List Block

abbrev pub form_with : List Block → ℕ → Dir → List Block → Form
form_with left state heading right = record { left = left; state = state; heading = heading; right = right }

abbrev pub faced : Dir → List Sym → ℕ → List Sym → Zipper
faced L l q r = AtLeft l q r
faced R l q r = AtRight l q r

-- a form with numbers for its variables, before two half tapes
abbrev pub zipper_of : Form → Values → List Sym → List Sym → Zipper
zipper_of f v l r = faced f.heading (cells f.left v l) f.state (cells f.right v r)

-- beyond an end that isn't open there are blanks alone
abbrev pub IsBeyond : Bool → List Sym → Type 0
IsBeyond open_end l = open_end ≡ false → l ≡ []

-- a rule: which ends are open, and two forms
pub record RuleForm : Type 0 where
  pub open_left : Bool
  pub open_right : Bool
  pub from : Form
  pub to : Form

-- it holds: for all numbers and all half tapes beyond its ends, the run comes from the one form to the other
pub record HoldsAt (m : Machine) (rule : RuleForm) (v : Values) : Type 0 where
  pub run : (l r : List Sym) → IsBeyond rule.open_left l → IsBeyond rule.open_right r →
      Comes m (zipper_of rule.from v l r) (zipper_of rule.to v l r)

pub record RuleHolds (m : Machine) (rule : RuleForm) : Type 0 where
  pub at : (v : Values) → HoldsAt m rule v
