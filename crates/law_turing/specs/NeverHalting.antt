-- Why machines never halt: cycles, backward reasoning, and sets of what can stand on the tape that no step leaves.
use Rattle.std.specs.Prelude.{◌≡◌, ℕ, ◌<◌, Some, ◌≤◌, ℤ, pos, ◌+ℤ◌, ◌≤ℤ◌, ◌≢◌, suc, ◌⊎◌, if◌then◌else◌, List, [], ◌∷◌, length, All, AllPairs, Contains, Option, None, zero, ◌==◌, ◌&&◌, Bool, true, false, ◌++◌, ◌-ℤ◌, ◌<ℤ◌, replicate, IsTrue}
use Rattle.std.specs.Ordering.{int_eq}
use Rattle.std.specs.List.{filter_map, flat_map}
use Rattle.law_turing.specs.Run.{Machine, Config, after, cell, symbol_read, moved_head, next, from, opposite}
use Rattle.machine_text.specs.declared.table.Dir.{Dir}
use Rattle.machine_text.specs.declared.table.Dir.TheVariants.{L, R}
use Rattle.machine_text.specs.declared.table.Sym.{Sym}
use Rattle.machine_text.specs.declared.table.Entry.{Entry}
use Rattle.machine_text.specs.declared.table.Sym.TheVariants.{Zero, One}

-- A cycle: the run from the blank tape comes to the same configuration twice.

-- the configurations at the times i and j are one
pub record Cycle (m : Machine) (i j : ℕ) : Type 0 where
  pub order : i < j
  pub at : Config
  pub begins : after m i ≡ Some at
  pub ends : after m j ≡ Some at

-- A translated cycle: the run from the blank tape comes to the same configuration twice, but for a shift and
-- for the cells that the head has left behind. A direction says to which side the tape is the same; the other
-- side is the mirror image.

-- x is at b, or on this side of it
abbrev pub Beyond : Dir → ℤ → ℤ → Type 0
Beyond R b x = b ≤ℤ x
Beyond L b x = x ≤ℤ b

-- at the times i to j - 1 the head is always at or beyond b, and once at b: on the side R, b is the least head
pub record Farthest (m : Machine) (side : Dir) (i j : ℕ) (b : ℤ) : Type 0 where
  pub bound : (k : ℕ) (c : Config) → i ≤ k → k < j → after m k ≡ Some c → Beyond side b c.tape.head
  pub time : ℕ
  pub low : i ≤ time
  pub high : time < j
  pub there : Config
  pub is : after m time ≡ Some there
  pub reached : there.tape.head ≡ b

-- at the times i and j the state is the same, and the tape from the bound on, but for a shift that doesn't lead
-- back. It may be 0
pub record Translated (m : Machine) (i j : ℕ) (side : Dir) : Type 0 where
  pub order : i < j
  pub begin : Config
  pub end : Config
  pub begins : after m i ≡ Some begin
  pub ends : after m j ≡ Some end
  pub state : begin.state ≡ end.state
  pub shift : ℤ
  pub shifted : end.tape.head ≡ begin.tape.head +ℤ shift
  pub onward : Beyond side (pos 0) shift
  pub bound : ℤ
  pub farthest : Farthest m side i j bound
  pub cells : (x : ℤ) → Beyond side bound x → cell begin x ≡ cell end (x +ℤ shift)

-- Backward reasoning: no configuration whatever comes to a halting pair after exactly d steps. And the paths by
-- which a configuration of one of n states comes to a halting pair, over tapes of which some cells are known.

-- after exactly d steps from c there is a halting pair
pub record Ends (m : Machine) (c : Config) (d : ℕ) : Type 0 where
  pub at : Config
  pub is : from m d c ≡ Some at
  pub over : next m at ≡ None

-- the run from the blank tape does d steps, and no configuration of a state below n ends after exactly d
pub record Backward (n : ℕ) (m : Machine) (d : ℕ) : Type 0 where
  pub at : Config
  pub runs : after m d ≡ Some at
  pub none : (c : Config) → c.state < n → Ends m c d → ⊥

-- a state and a symbol read
pub record Pair : Type 0 where
  pub state : ℕ
  pub symbol : Sym

abbrev pub pair_of : Config → Pair
pair_of c = record { state = c.state; symbol = symbol_read c.tape }

-- a run that stands somewhere goes through these pairs, step by step, and then no further; of no pairs, it has
-- ended. So the last one is a halting pair
abbrev pub RunsThrough : Machine → Option Config → List Pair → Type 0
RunsThrough m o [] = o ≡ None
RunsThrough m o (p ∷ ps) = (c : Config) × (o ≡ Some c) × (pair_of c ≡ p) × RunsThrough m (next m c) ps

-- a path of depth k: the k + 1 pairs through which some configuration runs to its end
pub record IsPath (n : ℕ) (m : Machine) (k : ℕ) (pairs : List Pair) : Type 0 where
  pub size : length pairs ≡ suc k
  pub start : Config
  pub within : start.state < n
  pub runs : RunsThrough m (Some start) pairs

-- there are more than so many paths of depth k
pub record IsWider (n : ℕ) (m : Machine) (k limit : ℕ) : Type 0 where
  pub paths : List (List Pair)
  pub each : All (IsPath n m k) paths
  pub different : AllPairs (λ a b. a ≢ b) paths
  pub more : limit < length paths

-- these are the paths of depth k, each once
pub record AllPaths (n : ℕ) (m : Machine) (k : ℕ) (paths : List (List Pair)) : Type 0 where
  pub each : All (IsPath n m k) paths
  pub different : AllPairs (λ a b. a ≢ b) paths
  pub every : (pairs : List Pair) → IsPath n m k pairs → Contains paths pairs

-- a state, and the cells of a tape as far as they are known, counted from the head
pub record Partial : Type 0 where
  pub state : ℕ
  pub cells : ℤ → Option Sym

-- the configuration has that state, and those cells where they are known
pub record Agrees (k : Partial) (c : Config) : Type 0 where
  pub state : c.state ≡ k.state
  pub cells : (x : ℤ) (s : Sym) → k.cells x ≡ Some s → cell c (c.tape.head +ℤ x) ≡ s

-- exactly the configurations that agree with this run through these pairs; and there is one
pub record IsNeeded (m : Machine) (k : Partial) (pairs : List Pair) : Type 0 where
  pub only : (c : Config) → RunsThrough m (Some c) pairs → Agrees k c
  pub enough : (c : Config) → Agrees k c → RunsThrough m (Some c) pairs
  pub some : (c : Config) × Agrees k c

-- what is known of a configuration that stands on a pair
abbrev pub standing_on : Pair → Partial
standing_on p = record { state = p.state; cells = λ x. if int_eq x (pos 0) then Some p.symbol else None }

-- where the head came from by a move, counted from where it is
abbrev pub left_behind : Dir → ℤ
left_behind d = moved_head (pos 0) (opposite d)

-- what is known of a configuration on a pair whose entry leads to one of which this is known
abbrev pub before_step : Pair → Entry → Partial → Partial
before_step p e k = record {
  state = p.state;
  cells = λ x. if int_eq x (pos 0) then Some p.symbol else k.cells (moved_head x (opposite e.dir));
}

-- an entry can lead to a configuration of which this is known: to its state, and with the symbol written in the
-- cell that it leaves, unless nothing is known of that
pub record LeadsTo (e : Entry) (k : Partial) : Type 0 where
  pub state : k.state ≡ e.next.0
  pub written : (k.cells (left_behind e.dir) ≡ None) ⊎ (k.cells (left_behind e.dir) ≡ Some e.write)

-- What the paths of each depth need, one partly known tape a path: first those of the halting pairs, then, pair by
-- pair, those before each of the last depth.

-- the pairs of n states: A0, A1, B0, and so on
unfoldable pub all_pairs : ℕ → List Pair
all_pairs zero = []
all_pairs (suc n) = all_pairs n ++ record { state = n; symbol = Zero } ∷ record { state = n; symbol = One } ∷ []

-- whether a cell may hold a symbol: one that isn't known may
abbrev pub may_hold : Option Sym → Sym → Bool
may_hold None s = true
may_hold (Some Zero) Zero = true
may_hold (Some Zero) One = false
may_hold (Some One) Zero = false
may_hold (Some One) One = true

-- whether an entry can lead to a configuration of which this is known
abbrev pub can_lead_to : Entry → Partial → Bool
can_lead_to e k = (k.state == e.next.0) && may_hold (k.cells (left_behind e.dir)) e.write

-- what is known on a pair, by its entry, if it is a halting pair
abbrev pub known_at_end : Pair → Option Entry → Option Partial
known_at_end p None = Some (standing_on p)
known_at_end p (Some e) = None

-- what is known on a pair, by its entry, if that can lead to a configuration of which this is known
abbrev pub known_before : Partial → Pair → Option Entry → Option Partial
known_before k p None = None
known_before k p (Some e) = if can_lead_to e k then Some (before_step p e k) else None

-- what the paths of depth k need, one path after another
unfoldable pub level : ℕ → Machine → ℕ → List Partial
level n m zero = filter_map (λ p. known_at_end p (m p.state p.symbol)) (all_pairs n)
level n m (suc k) = flat_map (λ later. filter_map (λ p. known_before later p (m p.state p.symbol)) (all_pairs n))
    (level n m k)

-- Closed position sets (n-gram CPS): sets of words of g adjacent cells left and right of the head, and of what
-- stands around it, that no step leaves. Words are written from left to right, as they stand on the tape.

-- the word of g cells from a place on
unfoldable pub word : Config → ℤ → ℕ → List Sym
word c x zero = []
word c x (suc g) = cell c x ∷ word c (x +ℤ pos 1) g

-- a state, the symbol read, and the words left and right of the head
pub record Local : Type 0 where
  pub left : List Sym
  pub state : ℕ
  pub read : Sym
  pub right : List Sym

-- what stands around the head of a configuration, to a width of g cells
abbrev pub local_of : ℕ → Config → Local
local_of g c = record {
  left = word c (c.tape.head -ℤ pos g) g;
  state = c.state;
  read = symbol_read c.tape;
  right = word c (c.tape.head +ℤ pos 1) g;
}

-- all words are of the width; the sets hold the blank tape, no member halts, and no step leaves them. A step to the right takes the first
-- symbol of the left word away and the written one comes in behind it; any symbol may come into view at the end
-- of the right word, so long as that word is one of the set. A step to the left is the mirror image
pub record IsClosedSet (g : ℕ) (m : Machine) (lefts rights : List Sym → Type 0)
    (members : Local → Type 0) : Type 0 where
  pub width : 0 < g
  pub left_words : (w : List Sym) → lefts w → length w ≡ g
  pub right_words : (w : List Sym) → rights w → length w ≡ g
  pub words_around : (c : Local) → members c → (length c.left ≡ g) × (length c.right ≡ g)
  pub blank_left : lefts (replicate g Zero)
  pub blank_right : rights (replicate g Zero)
  pub blank_tape : members (record { left = replicate g Zero; state = 0; read = Zero; right = replicate g Zero })
  pub goes_on : (c : Local) → members c → m c.state c.read ≢ None
  pub on_right : (l0 r0 s : Sym) (l r : List Sym) (q : ℕ) (e : Entry) →
      members (record { left = l0 ∷ l; state = q; read = s; right = r0 ∷ r }) → m q s ≡ Some e → e.dir ≡ R →
      lefts (l ++ e.write ∷ []) × ((x : Sym) → rights (r ++ x ∷ []) →
      members (record { left = l ++ e.write ∷ []; state = e.next.0; read = r0; right = r ++ x ∷ [] }))
  pub on_left : (l0 r0 s : Sym) (l r : List Sym) (q : ℕ) (e : Entry) →
      members (record { left = l ++ l0 ∷ []; state = q; read = s; right = r ++ r0 ∷ [] }) → m q s ≡ Some e →
      e.dir ≡ L → rights (e.write ∷ r) × ((x : Sym) → lefts (x ∷ l) →
      members (record { left = x ∷ l; state = e.next.0; read = l0; right = e.write ∷ r }))

-- the configuration is within the sets: what stands around its head is a member, and so is each word wholly on
-- one side of it
pub record IsInside (g : ℕ) (lefts rights : List Sym → Type 0) (members : Local → Type 0) (c : Config) : Type 0 where
  pub here : members (local_of g c)
  pub left : (x : ℤ) → (x +ℤ pos g) ≤ℤ c.tape.head → lefts (word c x g)
  pub right : (x : ℤ) → c.tape.head <ℤ x → rights (word c x g)

-- Finite automata reduction, in its direct form. One automaton reads the half tape behind the head, from far
-- away towards the head; a second one then reads the symbol under the head and the cells ahead of it, and
-- comes to its halt state wherever the machine halts. The side says which way is ahead.

-- a state of the second automaton: one of the first and a machine state, or the halt state
pub data Node : Type 0 where
  At : ℕ → ℕ → Node
  Halt : Node

-- the two automata: the first has states below size, and starts in 0. The tests say which edges the second
-- has, and which of its states are kept
pub record TwoAutomata : Type 0 where
  pub size : ℕ
  pub delta : ℕ → Sym → ℕ
  pub edge : Node → Sym → Node → Bool
  pub keep : Node → Bool

-- the automata are those of a machine of n states: each entry, and each halting pair, has its edges, and no
-- blank tape ahead leads from the start to the halt state
pub record Fits (n : ℕ) (m : Machine) (side : Dir) (a : TwoAutomata) : Type 0 where
  pub some : 0 < a.size
  pub states : (q : ℕ) (s : Sym) → q < a.size → a.delta q s < a.size
  pub blank : a.delta 0 Zero ≡ 0
  pub halted : (s : Sym) → IsTrue (a.edge Halt s Halt)
  pub halting : (q f : ℕ) (r : Sym) → q < a.size → f < n → m f r ≡ None → IsTrue (a.edge (At q f) r Halt)
  pub ahead : (q f : ℕ) (r : Sym) (e : Entry) → q < a.size → f < n → m f r ≡ Some e → e.dir ≡ side →
      IsTrue (a.edge (At q f) r (At (a.delta q e.write) e.next.0))
  pub back : (q f : ℕ) (r b : Sym) (e : Entry) (u v : Node) → q < a.size → f < n → m f r ≡ Some e → e.dir ≢ side →
      IsTrue (a.edge (At q e.next.0) b u) → IsTrue (a.edge u e.write v) → IsTrue (a.edge (At (a.delta q b) f) r v)
  pub start_kept : IsTrue (a.keep (At 0 0))
  pub blank_kept : (u v : Node) → IsTrue (a.keep u) → IsTrue (a.edge u Zero v) → IsTrue (a.keep v)
  pub halt_not_kept : a.keep Halt ≡ false

-- the place so many cells behind another
abbrev pub behind : Dir → ℤ → ℕ → ℤ
behind R x k = x -ℤ pos k
behind L x k = x +ℤ pos k

-- the state of the first automaton after so many cells behind a place, of which it reads the nearest last
abbrev pub read_behind : (ℕ → Sym → ℕ) → Dir → Config → ℤ → ℕ → ℕ
read_behind delta side c x zero = 0
read_behind delta side c x (suc far) = delta (read_behind delta side c (behind side x 1) far) (cell c (behind side x 1))

-- q is the state of the first automaton after the half tape behind a place: after so many cells that all beyond
-- them are blank
pub record ReadsBehind (delta : ℕ → Sym → ℕ) (side : Dir) (c : Config) (x : ℤ) (q : ℕ) : Type 0 where
  pub far : ℕ
  pub zeros : (y : ℤ) → Beyond (opposite side) (behind side x (suc far)) y → cell c y ≡ Zero
  pub is : q ≡ read_behind delta side c x far

-- the symbols of so many cells, from a place on and ahead
abbrev pub symbols_ahead : Dir → Config → ℤ → ℕ → List Sym
symbols_ahead side c x zero = []
symbols_ahead side c x (suc k) = cell c x ∷ symbols_ahead side c (moved_head x side) k

-- the second automaton comes from u to v by these symbols
abbrev pub Reaches : TwoAutomata → Node → List Sym → Node → Type 0
Reaches a u [] v = u ≡ v
Reaches a u (s ∷ w) v = (t : Node) × IsTrue (a.edge u s t) × Reaches a t w v

-- some cells ahead, from the head's own on, lead a configuration to the halt state: the first automaton reads what
-- is behind the head, and from its state and the configuration's the second one comes there
abbrev pub LeadsToHalt : TwoAutomata → Dir → Config → Type 0
LeadsToHalt a side c =
    (q : ℕ) → ReadsBehind a.delta side c c.tape.head q → (k : ℕ)
    × Reaches a (At q c.state) (symbols_ahead side c c.tape.head k) Halt
