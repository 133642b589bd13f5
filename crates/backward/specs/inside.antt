-- What the crate's own code needs to say of its steps; no public contract speaks of it.
use Rattle.std.specs.Prelude.{ℕ, ◌+◌, ◌/◌, ◌%◌, ◌<◌, ◌≤◌, ℤ, pos, negsuc, ◌+ℤ◌, List, Option, None, slice_index_or, ◌≡◌, ◌*◌, Some, slice_index, zero, suc, length, Result, Ok, Err, Bool, true, false}
use Rattle.std.specs.List.{filter_map, sum_by}
use Rattle.machine_text.specs.Terms.{Packed, symbol_of, entry_of, IsTable, state_limit}
use Rattle.machine_text.specs.declared.table.Sym.{Sym}
use Rattle.law_turing.specs.Terms.{Pair, Partial, known_before, all_pairs, level, Machine, Config, after}
use Rattle.machine_text.specs.declared.table.Entry.{Entry}
use Rattle.backward.specs.Limits.{path_limit}
use Rattle.backward.specs.declared.paths.TooWide.{TooWide}

-- A stretch of cells, each known or not, and what it says of a tape around a head.

-- what is known of a cell by its place; nothing beyond the stretch
abbrev pub known_cell : List (Option Sym) → ℤ → Option Sym
known_cell cells (pos i) = slice_index_or cells i None
known_cell cells (negsuc i) = None

-- what is known of a configuration in a state whose head stands at a place of the stretch
unfoldable pub known_about : List (Option Sym) → ℕ → ℕ → Partial
known_about cells state head = record { state = state; cells = λ x. known_cell cells (pos head +ℤ x) }

-- what is known before a step from a pair of a table to a configuration of which this is known, if there is such a step
abbrev pub known_from : Packed → ℕ → Sym → Partial → Option Partial
known_from p q s later = known_before later (record { state = q; symbol = s }) (entry_of p q s)

-- the pairs in their order: A0, A1, B0, and so on
abbrev pub pair_at : ℕ → Pair
pair_at place = record { state = place / 2; symbol = symbol_of (place % 2) }

-- from this place the head can go back so many steps, and stay within so many cells
pub record HasRoom (cells head steps : ℕ) : Type 0 where
  pub left : steps ≤ head
  pub right : head + steps < cells

-- The pairs of a table whose entries lead to one state, as chains of places.

-- the state to which the pair at a place leads, if it has an entry
abbrev pub next_of : Option Entry → Option ℕ
next_of None = None
next_of (Some e) = Some e.next.0

unfoldable pub target_at : Packed → ℕ → Option ℕ
target_at p place = next_of (entry_of p (pair_at place).state (pair_at place).symbol)

-- the first place from one on whose pair leads to a state, or the number of places where there is none
pub record IsFirst (p : Packed) (from state place : ℕ) : Type 0 where
  pub low : from ≤ place
  pub high : place ≤ 2 * p.states
  pub passed : (i : ℕ) → from ≤ i → i < place → target_at p i ≡ Some state → ⊥
  pub leads : place < 2 * p.states → target_at p place ≡ Some state

-- the first of each state's places from one on, and for each of them the next one of the same state
pub record AreChains (p : Packed) (from : ℕ) (first next : List ℕ) : Type 0 where
  pub begins : (state : ℕ) → state < state_limit → IsFirst p from state (slice_index first state)
  pub goes_on : (i state : ℕ) → from ≤ i → i < 2 * p.states → target_at p i ≡ Some state
      → IsFirst p (i + 1) state (slice_index next i)

-- How many paths there are, counted from the halting pairs back.

-- how many paths go so many pairs further back than a path that needs this
unfoldable pub paths_beyond : ℕ → Machine → ℕ → Partial → ℕ
paths_beyond n m zero needs = 1
paths_beyond n m (suc k) needs =
    sum_by (paths_beyond n m k) (filter_map (λ p. known_before needs p (m p.state p.symbol)) (all_pairs n))

-- the numbers of paths, depth by depth, after a path of a depth and all those that go further back than it were counted
pub record CountsOn (p : Packed) (depth : ℕ) (needs : Partial) (old new : List ℕ) : Type 0 where
  pub from : (k : ℕ) → depth + k < length old
      → slice_index new (depth + k) ≡ slice_index old (depth + k) + paths_beyond p.states (entry_of p) k needs
  pub nearer : (k : ℕ) → k < depth → slice_index new k ≡ slice_index old k
  pub narrow : (k : ℕ) → slice_index old k ≤ path_limit → slice_index new k ≤ path_limit

-- with them some depth has too many
pub record Exceeds (p : Packed) (depth : ℕ) (needs : Partial) (old : List ℕ) : Type 0 where
  pub further : ℕ
  pub within : depth + further < length old
  pub more : path_limit < slice_index old (depth + further) + paths_beyond p.states (entry_of p) further needs

-- the numbers of paths of the depths 0, 1, and so on, none of them beyond the limit
pub record AreWidths (p : Packed) (counts : List ℕ) : Type 0 where
  pub each : (k : ℕ) → k < length counts → slice_index counts k ≡ length (level p.states (entry_of p) k)
  pub narrow : (k : ℕ) → k < length counts → slice_index counts k ≤ path_limit

-- one of the first depths has more paths than the limit
pub record HasTooMany (p : Packed) (depths : ℕ) : Type 0 where
  pub depth : ℕ
  pub within : depth < depths
  pub more : path_limit < length (level p.states (entry_of p) depth)

-- the paths of the depths up to one were counted, or there are too many
abbrev pub Counted : Packed → ℕ → Result (Unit {0}) TooWide → List ℕ → Type 0
Counted p depth (Ok _) counts = AreWidths p counts × (length counts ≡ depth + 1)
Counted p depth (Err _) counts = HasTooMany p (depth + 1)

-- the run of a table does so many steps
pub record Does (p : Packed) (steps : ℕ) : Type 0 where
  pub is_table : IsTable p
  pub at : Config
  pub runs : after (entry_of p) steps ≡ Some at

-- whether it does
abbrev pub SaysDone : Packed → ℕ → Bool → Type 0
SaysDone p steps true = Does p steps
SaysDone p steps false = (at : Config) → after (entry_of p) steps ≡ Some at → ⊥
