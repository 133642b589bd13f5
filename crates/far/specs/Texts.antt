-- Automata in numbers, and the texts of their numbers.
use Rattle.std.specs.Prelude.{◌≡◌, ℕ, ◌+◌, ◌*◌, ◌^◌, ◌<◌, ◌≤◌, ◌==◌, ◌&&◌, nat_lt, Bool, true, false, List, length, slice_index, ◌-◌, if◌then◌else◌, [], ◌∷◌, get_or, map, take, drop}
use Rattle.std.specs.Int.{bit_at}
use Rattle.std.specs.List.{join_with_byte}
use Rattle.std.specs.Int.Digits.{digits_of, number_from_digits}
use Rattle.std.specs.Str.{bytes_eq}
use Rattle.machine_text.specs.declared.table.Sym.{Sym}
use Rattle.machine_text.specs.declared.table.Dir.{Dir}
use Rattle.machine_text.specs.Terms.{Packed, symbol_number, entry_of, state_limit}
use Rattle.law_turing.specs.Terms.{Node, At, Halt, TwoAutomata as Tests, Fits}
use Rattle.far.specs.Limits.{size_limit}
use Rattle.text.specs.Terms.{parts_of}
use Rattle.kind_evidence.specs.Terms.{each_below}

-- Two automata in numbers, and when they fit a table.

-- what they were made for, which way is ahead, the size of the first automaton, where it goes from state q on
-- s (number 2q + s), the edges of the second on r from its state number j (number 2j + r), what is kept
pub record Automata : Type 0 where
  pub states : ℕ
  pub side : Dir
  pub size : ℕ
  pub delta : List ℕ
  pub rows : List ℕ
  pub keep : ℕ

abbrev pub automata : ℕ → Dir → ℕ → List ℕ → List ℕ → ℕ → Automata
automata states side size delta rows keep = record
    { states = states; side = side; size = size; delta = delta; rows = rows; keep = keep }

-- a set of numbers, kept as the bits of one
abbrev pub has : ℕ → ℕ → Bool
has set k = bit_at set k == 1

-- the second automaton's states by their numbers; the halt state is the last
abbrev pub node_number : Automata → Node → ℕ
node_number a (At q f) = q * a.states + f
node_number a Halt = a.size * a.states

abbrev pub is_node : Automata → Node → Bool
is_node a (At q f) = nat_lt q a.size && nat_lt f a.states
is_node a Halt = true

abbrev pub has_node : Automata → ℕ → Node → Bool
has_node a set v = is_node a v && has set (node_number a v)

-- the edges of a state, given by its number, on a symbol
abbrev pub row_at : Automata → ℕ → Sym → ℕ
row_at a j s = slice_index a.rows (2 * j + symbol_number s)

abbrev pub target : Automata → ℕ → Sym → ℕ
target a q s = slice_index a.delta (2 * q + symbol_number s)

-- the halt state goes to itself alone
abbrev pub has_edge : Automata → Node → Sym → Node → Bool
has_edge a (At q f) s v = is_node a (At q f) && has_node a (row_at a (q * a.states + f) s) v
has_edge a Halt s (At q f) = false
has_edge a Halt s Halt = true

-- the automata that the numbers describe
unfoldable pub described : Automata → Tests
described a = record { size = a.size; delta = target a; edge = has_edge a; keep = has_node a a.keep }

-- there are as many numbers as there have to be, and none is too large
pub record AreAutomata (a : Automata) : Type 0 where
  pub moves : length a.delta ≡ 2 * a.size
  pub targets : (k : ℕ) → slice_index a.delta k < a.size
  pub edges : length a.rows ≡ 2 * (a.size * a.states)
  pub sets : (k : ℕ) → slice_index a.rows k < 2 ^ (a.size * a.states + 1)
  pub kept : a.keep < 2 ^ (a.size * a.states + 1)

-- the first automaton has no more states than may be, and so have the tables for which they are made
pub record AreSized (a : Automata) : Type 0 where
  pub some : 1 ≤ a.size
  pub small : a.size ≤ size_limit
  pub made : 1 ≤ a.states
  pub few : a.states ≤ state_limit

-- the table has as many states as they were made for, and they are automata of it
pub record AreAutomataOf (a : Automata) (p : Packed) : Type 0 where
  pub states : a.states ≡ p.states
  pub fits : Fits p.states (entry_of p) a.side (described a)

-- The texts of automata's numbers. Bytes are their ASCII codes: 44 is the comma, 48 `0`, 97 `a`.

-- a digit in hexadecimal, and what such a byte is worth
abbrev pub hex_glyph : ℕ → ℕ
hex_glyph d = if nat_lt d 10 then 48 + d else 87 + d

abbrev pub hex_value : ℕ → ℕ
hex_value b = if nat_lt b 58 then b - 48 else b - 87

-- a number in hexadecimal, in lower case and without leading zeros
unfoldable pub hex_text : ℕ → List ℕ
hex_text n = if n == 0 then 48 ∷ [] else map hex_glyph (digits_of 16 n)

-- the number that such digits write
abbrev pub hex_worth : List ℕ → ℕ
hex_worth text = number_from_digits 16 (map hex_value text)

-- the text is a number below a limit, in hexadecimal
pub record IsHex (limit : ℕ) (text : List ℕ) : Type 0 where
  pub form : hex_text (hex_worth text) ≡ text
  pub small : hex_worth text < limit

-- a byte is the digit of a number below a limit
pub record IsDigit (limit byte : ℕ) : Type 0 where
  pub form : hex_glyph (hex_value byte) ≡ byte
  pub small : hex_value byte < limit

-- delta: two digits for each state, each that of a state
pub record IsDelta (size : ℕ) (text : List ℕ) : Type 0 where
  pub count : length text ≡ 2 * size
  pub each : (k : ℕ) → k < 2 * size → IsDigit size (slice_index text k)

abbrev pub delta_of : List ℕ → List ℕ
delta_of text = map hex_value text

abbrev pub delta_text : List ℕ → List ℕ
delta_text delta = map hex_glyph delta

-- rows: so many numbers in hexadecimal, with a comma between each two
pub record IsRows (count limit : ℕ) (text : List ℕ) : Type 0 where
  pub count_is : length (parts_of 44 text) ≡ count
  pub each : (k : ℕ) → k < count → IsHex limit (get_or (parts_of 44 text) k [])

abbrev pub rows_of : List ℕ → List ℕ
rows_of text = map hex_worth (parts_of 44 text)

abbrev pub rows_text : List ℕ → List ℕ
rows_text rows = join_with_byte 44 (map hex_text rows)

-- the texts are those of automata of this size, made for so many states: a set has a bit for each state of the
-- second automaton
pub record AreTexts (states size : ℕ) (delta rows keep : List ℕ) : Type 0 where
  pub moves : IsDelta size delta
  pub edges : IsRows (2 * (size * states)) (2 ^ (size * states + 1)) rows
  pub kept : IsHex (2 ^ (size * states + 1)) keep

-- the automata that they give
abbrev pub automata_by : ℕ → Dir → ℕ → List ℕ → List ℕ → List ℕ → Automata
automata_by states side size delta rows keep = automata states side size (delta_of delta) (rows_of rows)
    (hex_worth keep)

-- The texts of automata's numbers, one behind another: delta, then so many bytes of rows, then keep.
abbrev pub owned_delta : ℕ → List ℕ → List ℕ
owned_delta size text = take (2 * size) text

abbrev pub owned_rows : ℕ → ℕ → List ℕ → List ℕ
owned_rows size row_bytes text = take row_bytes (drop (2 * size) text)

abbrev pub owned_keep : ℕ → ℕ → List ℕ → List ℕ
owned_keep size row_bytes text = drop row_bytes (drop (2 * size) text)

-- Whether texts are those of automata, as tests: a grammar needs an answer, and not the fact alone.
abbrev pub is_hex : ℕ → List ℕ → Bool
is_hex limit text = bytes_eq (hex_text (hex_worth text)) text && nat_lt (hex_worth text) limit

abbrev pub is_state_digit : ℕ → ℕ → Bool
is_state_digit limit byte = (hex_glyph (hex_value byte) == byte) && nat_lt (hex_value byte) limit

abbrev pub is_delta : ℕ → List ℕ → Bool
is_delta size text = (length text == 2 * size) && each_below (λ k. is_state_digit size (slice_index text k)) (2 * size)

abbrev pub is_rows : ℕ → ℕ → List ℕ → Bool
is_rows count limit text = (length (parts_of 44 text) == count) && each_below
    (λ k. is_hex limit (get_or (parts_of 44 text) k [])) count

-- whether the texts are those of automata of this size, made for so many states
unfoldable pub are_texts : ℕ → ℕ → List ℕ → List ℕ → List ℕ → Bool
are_texts states size delta rows keep =
    is_delta size delta && (is_rows (2 * (size * states)) (2 ^ (size * states + 1)) rows && is_hex
    (2 ^ (size * states + 1)) keep)
