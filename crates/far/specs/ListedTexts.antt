-- Automata with listed edges, and the texts of their numbers.
use Rattle.std.specs.Prelude.{◌≡◌, ℕ, ◌+◌, ◌*◌, ◌<◌, ◌≤◌, ◌==◌, ◌&&◌, ◌||◌, nat_lt, Bool, true, false, List, [], length, get_or, slice_index, if◌then◌else◌, ◌∷◌, Option, Some, None, option_map}
use Rattle.std.specs.List.{list_any}
use Rattle.std.specs.Option.{option_and_then}
use Rattle.std.specs.Str.{bytes_eq}
use Rattle.machine_text.specs.declared.table.Sym.{Sym}
use Rattle.machine_text.specs.declared.table.Dir.{Dir}
use Rattle.machine_text.specs.Terms.{Packed, symbol_number, entry_of, state_limit}
use Rattle.law_turing.specs.Terms.{Node, At, Halt, TwoAutomata as Tests, Fits}
use Rattle.far.specs.Limits.{listed_size_limit}
use Rattle.text.specs.Terms.{decimal_value, parts_of}

-- Two automata in numbers, the edges of the second by lists, and when they fit a table.

-- what they were made for, which way is ahead, the size of the first automaton, where it goes from state q on
-- s (number 2q + s), the edges of the second on r from its state number j (list 2j + r), what is kept. The number
-- of the halt state stands for every state: a list that has it is of a state with edges to all
pub record ListedAutomata : Type 0 where
  pub states : ℕ
  pub side : Dir
  pub size : ℕ
  pub delta : List ℕ
  pub rows : List (List ℕ)
  pub keep : List ℕ

abbrev pub listed_automata : ℕ → Dir → ℕ → List ℕ → List (List ℕ) → List ℕ → ListedAutomata
listed_automata states side size delta rows keep = record
    { states = states; side = side; size = size; delta = delta; rows = rows; keep = keep }

-- whether a number is in a list
abbrev pub has_item : List ℕ → ℕ → Bool
has_item list k = list_any (λ x. x == k) list

-- the second automaton's states by their numbers; the halt state is the last
abbrev pub halt_number : ListedAutomata → ℕ
halt_number a = a.size * a.states

abbrev pub number_of_node : ListedAutomata → Node → ℕ
number_of_node a (At q f) = q * a.states + f
number_of_node a Halt = halt_number a

abbrev pub is_node_of : ListedAutomata → Node → Bool
is_node_of a (At q f) = nat_lt q a.size && nat_lt f a.states
is_node_of a Halt = true

abbrev pub lists_node : ListedAutomata → List ℕ → Node → Bool
lists_node a list v = is_node_of a v && has_item list (number_of_node a v)

-- a list leads to its members, or to all
abbrev pub list_leads : ListedAutomata → List ℕ → Node → Bool
list_leads a list v = is_node_of a v && (has_item list (halt_number a) || has_item list (number_of_node a v))

-- the edges of a state, given by its number, on a symbol
abbrev pub edges_at : ListedAutomata → ℕ → Sym → List ℕ
edges_at a j s = get_or a.rows (2 * j + symbol_number s) []

abbrev pub target_of : ListedAutomata → ℕ → Sym → ℕ
target_of a q s = slice_index a.delta (2 * q + symbol_number s)

-- the halt state goes to itself alone
abbrev pub has_listed_edge : ListedAutomata → Node → Sym → Node → Bool
has_listed_edge a (At q f) s v = is_node_of a (At q f) && list_leads a (edges_at a (q * a.states + f) s) v
has_listed_edge a Halt s (At q f) = false
has_listed_edge a Halt s Halt = true

-- the automata that the numbers describe
unfoldable pub described_by : ListedAutomata → Tests
described_by a = record { size = a.size; delta = target_of a; edge = has_listed_edge a; keep = lists_node a a.keep }

-- each number of a list is below the next one
pub record IsRising (list : List ℕ) : Type 0 where
  pub order : (k : ℕ) → k + 1 < length list → slice_index list k < slice_index list (k + 1)

-- and none is above a limit
pub record IsSet (limit : ℕ) (list : List ℕ) : Type 0 where
  pub rising : IsRising list
  pub small : (k : ℕ) → k < length list → slice_index list k ≤ limit

-- there are as many numbers as there have to be, and none is too large
pub record AreListed (a : ListedAutomata) : Type 0 where
  pub moves : length a.delta ≡ 2 * a.size
  pub targets : (k : ℕ) → k < length a.delta → slice_index a.delta k < a.size
  pub edges : length a.rows ≡ 2 * (a.size * a.states)
  pub lists : (k : ℕ) → k < length a.rows → IsSet (a.size * a.states) (get_or a.rows k [])
  pub kept : IsSet (a.size * a.states) a.keep

-- the first automaton has no more states than may be, and so have the tables for which they are made
pub record AreOfSize (a : ListedAutomata) : Type 0 where
  pub some : 1 ≤ a.size
  pub small : a.size ≤ listed_size_limit
  pub made : 1 ≤ a.states
  pub few : a.states ≤ state_limit

-- the table has as many states as they were made for, and they are automata of it
pub record AreListedOf (a : ListedAutomata) (p : Packed) : Type 0 where
  pub states : a.states ≡ p.states
  pub fits : Fits p.states (entry_of p) a.side (described_by a)

-- The texts of automata's numbers. Bytes are their ASCII codes: 44 is the comma, 45 `-`, 46 the dot.

-- a number that a text is, from one number on and below another
abbrev pub bounded : ℕ → ℕ → ℕ → Option ℕ
bounded low limit n = if nat_lt n low then None else if nat_lt n limit then Some n else None

unfoldable pub number_in : ℕ → ℕ → List ℕ → Option ℕ
number_in low limit text = option_and_then (bounded low limit) (decimal_value text)

-- where the next number may begin
abbrev pub next_low : Bool → ℕ → ℕ
next_low rising n = if rising then n + 1 else 0

-- the numbers that parts of a text are, each below a limit, where they have to rise, from one number on
abbrev pub numbers_in : Bool → ℕ → ℕ → List (List ℕ) → Option (List ℕ)
numbers_in rising low limit [] = Some []
numbers_in rising low limit (part ∷ parts) =
    option_and_then (λ n. option_map (λ ns. n ∷ ns) (numbers_in rising (next_low rising n) limit parts))
    (number_in low limit part)

-- the edges of one state on one symbol: `-` for all, `.` for none, or a list; the halt state is the last
unfoldable pub row_in : ℕ → List ℕ → Option (List ℕ)
row_in last text =
    if bytes_eq text (45 ∷ []) then Some (last ∷ [])
    else if bytes_eq text (46 ∷ []) then Some []
    else numbers_in true 0 last (parts_of 46 text)

abbrev pub rows_in : ℕ → List (List ℕ) → Option (List (List ℕ))
rows_in last [] = Some []
rows_in last (part ∷ parts) = option_and_then (λ row. option_map (λ rows. row ∷ rows) (rows_in last parts))
    (row_in last part)

-- the automata with these numbers, where there are as many as there have to be
abbrev pub counted : ℕ → Dir → ℕ → List ℕ → List (List ℕ) → List ℕ → Option ListedAutomata
counted states side size delta rows keep =
    if (length delta == 2 * size) && (length rows == 2 * (size * states)) then Some
    (listed_automata states side size delta rows keep) else None

-- the automata that three texts give
unfoldable pub automata_in : ℕ → Dir → ℕ → List ℕ → List ℕ → List ℕ → Option ListedAutomata
automata_in states side size delta rows keep =
    option_and_then (λ delta. option_and_then (λ rows. option_and_then (λ keep.
    counted states side size delta rows keep)
    (numbers_in true 0 (size * states) (parts_of 44 keep)))
    (rows_in (size * states) (parts_of 44 rows)))
    (numbers_in false 0 size (parts_of 44 delta))

-- how many states the tables have for which it is made, which way is ahead, the size of the first automaton, and the
-- texts of delta, of the rows and of what is kept
pub record ListedTexts : Type 0 where
  pub states : ℕ
  pub side : Dir
  pub size : ℕ
  pub delta : List ℕ
  pub rows : List ℕ
  pub keep : List ℕ

abbrev pub listed_texts : ℕ → Dir → ℕ → List ℕ → List ℕ → List ℕ → ListedTexts
listed_texts states side size delta rows keep = record
    { states = states; side = side; size = size; delta = delta; rows = rows; keep = keep }

abbrev pub automata_of_texts : ListedTexts → Option ListedAutomata
automata_of_texts t = automata_in t.states t.side t.size t.delta t.rows t.keep

-- whether a text has so many
abbrev pub has_count : {A : Type 0} → Option (List A) → ℕ → Bool
has_count None n = false
has_count (Some list) n = length list == n
