-- What the numbers of two automata have to hold, over the numbers of states; and sets of numbers.
use Rattle.std.specs.Prelude.{◌≡◌, ℕ, ◌+◌, ◌*◌, ◌/◌, ◌^◌, ◌<◌, IsTrue, List, slice_index, ◌%◌, false, Option, Some, None, zero, suc, ◌||◌, ◌++◌, [], ◌∷◌, length, get_or}
use Rattle.far.specs.Texts.{has, Automata, row_at, target}
use Rattle.machine_text.specs.declared.table.Sym.{Sym}
use Rattle.machine_text.specs.declared.table.Sym.TheVariants.{Zero, One}
use Rattle.machine_text.specs.declared.table.Entry.{Entry}
use Rattle.law_turing.specs.Terms.{Machine}
use Rattle.far.specs.declared.listed_fits.Move.{Move}
use Rattle.far.specs.ListedTexts.{ListedAutomata, has_item, halt_number, edges_at, target_of}

-- Sets of numbers, kept as the bits of one.

-- the union holds what the rows of a set's members hold, members being below a number; each number has a row
-- for each symbol, and r is the symbol's
pub record Gathers (rows : List ℕ) (set r reach : ℕ) (union : ℕ) : Type 0 where
  pub only : (k : ℕ) → IsTrue (has union k) → (j : ℕ) × (j < reach) × IsTrue (has set j)
      × IsTrue (has (slice_index rows (2 * j + r)) k)
  pub all : (j k : ℕ) → j < reach → IsTrue (has set j) → IsTrue (has (slice_index rows (2 * j + r)) k)
      → IsTrue (has union k)

-- what is left of a set from a number on, moved down to 0, and the union of the rows of the members before it
pub record IsUnited (rows : List ℕ) (set r from rest union : ℕ) : Type 0 where
  pub left : rest ≡ set / 2 ^ from
  pub gathered : Gathers rows set r from union

-- one set is a part of another
pub record IsPart (a b : ℕ) : Type 0 where
  pub each : (k : ℕ) → IsTrue (has a k) → IsTrue (has b k)

-- What the numbers of two automata have to hold, over the numbers of states.

-- the number of the halt state
abbrev pub last : Automata → ℕ
last a = a.size * a.states

-- what the members of a set reach by a symbol is in a row
pub record ReachesIn (a : Automata) (set : ℕ) (s : Sym) (row : ℕ) : Type 0 where
  pub pairs : (j k : ℕ) → j < last a → IsTrue (has set j) → IsTrue (has (row_at a j s) k) → IsTrue (has row k)
  pub halt : IsTrue (has set (last a)) → IsTrue (has row (last a))

-- q is a state of the first automaton; f, and where an entry goes, are states of the machine
pub record HaveStates (a : Automata) (q f : ℕ) (e : Entry) : Type 0 where
  pub first : q < a.size
  pub second : f < a.states
  pub next : e.next.0 < a.states

-- the edges that an entry at the machine state f and the symbol r asks for, with the first automaton in q
pub record FitsEntry (a : Automata) (q f : ℕ) (r : Sym) (e : Entry) : Type 0 where
  pub ahead : e.dir ≡ a.side → IsTrue (has (row_at a (q * a.states + f) r) (target a q e.write * a.states + e.next.0))
  pub back_zero : (e.dir ≡ a.side → ⊥) → ReachesIn a (row_at a (q * a.states + e.next.0) Zero) e.write
      (row_at a (target a q Zero * a.states + f) r)
  pub back_one : (e.dir ≡ a.side → ⊥) → ReachesIn a (row_at a (q * a.states + e.next.0) One) e.write
      (row_at a (target a q One * a.states + f) r)

-- and those that a pair asks for
abbrev pub FitsBy : Option Entry → Automata → ℕ → ℕ → Sym → Type 0
FitsBy None a q f r = IsTrue (has (row_at a (q * a.states + f) r) (last a))
FitsBy (Some e) a q f r = FitsEntry a q f r e

unfoldable pub FitsPair : Machine → Automata → ℕ → ℕ → Sym → Type 0
FitsPair m a q f r = FitsBy (m f r) a q f r

-- the pairs of so many states of the second automaton
pub record EachFits (m : Machine) (a : Automata) (reach : ℕ) : Type 0 where
  pub zero : (j : ℕ) → j < reach → FitsPair m a (j / a.states) (j % a.states) Zero
  pub one : (j : ℕ) → j < reach → FitsPair m a (j / a.states) (j % a.states) One

-- the blank tape is kept away from the halt state
pub record KeepsBlank (a : Automata) : Type 0 where
  pub blank : slice_index a.delta 0 ≡ 0
  pub start : IsTrue (has a.keep 0)
  pub halt : has a.keep (last a) ≡ false
  pub kept : ReachesIn a a.keep Zero a.keep

-- What is seen of two automata while the edges of the second are found: how many states the table and the first have.
pub record Sizes : Type 0 where
  pub states : ℕ
  pub size : ℕ

-- What the numbers of two automata have to hold, over the numbers of states.

-- so many items of one list are in another
pub record IsPartTo (a b : List ℕ) (reach : ℕ) : Type 0 where
  pub each : (k : ℕ) → k < reach → IsTrue (has_item b (slice_index a k))

-- a state isn't the halt state, and its edges on a symbol are in a list
pub record LeadsInto (a : ListedAutomata) (u : ℕ) (s : Sym) (into : List ℕ) : Type 0 where
  pub below : u < halt_number a
  pub part : IsPartTo (edges_at a u s) into (length (edges_at a u s))

-- so are those of so many items of a list
pub record LeadInto (a : ListedAutomata) (set : List ℕ) (s : Sym) (into : List ℕ) (reach : ℕ) : Type 0 where
  pub each : (k : ℕ) → k < reach → LeadsInto a (slice_index set k) s into

-- the edge that an entry at the machine state f and the symbol r asks for which moves ahead, with the first automaton in q.
-- A list with the halt state has all edges
abbrev pub GoesAhead : ListedAutomata → ℕ → ℕ → Sym → Entry → Type 0
GoesAhead a q f r e = IsTrue (has_item (edges_at a (q * a.states + f) r) (halt_number a) || has_item
    (edges_at a (q * a.states + f) r) (target_of a q e.write * a.states + e.next.0))

-- what a pair asks for that is undefined, or whose entry moves ahead
abbrev pub EdgesFit : Option Entry → ListedAutomata → ℕ → ℕ → Sym → Type 0
EdgesFit None a q f r = IsTrue (has_item (edges_at a (q * a.states + f) r) (halt_number a))
EdgesFit (Some e) a q f r = e.dir ≡ a.side → GoesAhead a q f r e

unfoldable pub PairFits : Machine → ListedAutomata → ℕ → ℕ → Sym → Type 0
PairFits m a q f r = EdgesFit (m f r) a q f r

-- the pairs of so many states of the second automaton
pub record EachPairFits (m : Machine) (a : ListedAutomata) (reach : ℕ) : Type 0 where
  pub zero : (j : ℕ) → j < reach → PairFits m a (j / a.states) (j % a.states) Zero
  pub one : (j : ℕ) → j < reach → PairFits m a (j / a.states) (j % a.states) One

-- the transition of the first automaton from a state on a symbol, and those of so many states
abbrev pub move_from : ListedAutomata → ℕ → Sym → Move
move_from a q s = record { to = target_of a q s; from = q; read = s }

abbrev pub all_moves : ListedAutomata → ℕ → List Move
all_moves a zero = []
all_moves a (suc q) = all_moves a q ++ (move_from a q Zero ∷ (move_from a q One ∷ []))

-- the edges that an entry asks for which moves back over a transition
abbrev pub BackOver : ListedAutomata → ℕ → Sym → Entry → Move → Type 0
BackOver a f r e v =
    (IsTrue (has_item (edges_at a (v.to * a.states + f) r) (halt_number a)) → ⊥) →
    LeadInto a (edges_at a (v.from * a.states + e.next.0) v.read) e.write (edges_at a (v.to * a.states + f) r)
    (length (edges_at a (v.from * a.states + e.next.0) v.read))

-- over so many transitions of a list
pub record BackOverEach (a : ListedAutomata) (f : ℕ) (r : Sym) (e : Entry) (moves : List Move)
    (reach : ℕ) : Type 0 where
  pub each : (k : ℕ) (d : Move) → k < reach → BackOver a f r e (get_or moves k d)

-- over all of them
pub record GoesBack (a : ListedAutomata) (f : ℕ) (r : Sym) (e : Entry) : Type 0 where
  pub each : (q : ℕ) → q < a.size → (b : Sym) → BackOver a f r e (move_from a q b)

abbrev pub FitsBack : Option Entry → ListedAutomata → ℕ → Sym → Type 0
FitsBack None a f r = Unit
FitsBack (Some e) a f r = (e.dir ≡ a.side → ⊥) → GoesBack a f r e

-- the entries of so many states of the machine
pub record EachFitsBack (m : Machine) (a : ListedAutomata) (reach : ℕ) : Type 0 where
  pub zero : (f : ℕ) → f < reach → FitsBack (m f Zero) a f Zero
  pub one : (f : ℕ) → f < reach → FitsBack (m f One) a f One

-- for each state of the second automaton a target such that its edges on a symbol are in the list of (target, f) on r;
-- there is none where the number is no state
pub record AreSeen (a : ListedAutomata) (f : ℕ) (r s : Sym) (seen : List ℕ) : Type 0 where
  pub all : length seen ≡ halt_number a
  pub each : (u : ℕ) → u < halt_number a → slice_index seen u < a.size
      → LeadsInto a u s (edges_at a (slice_index seen u * a.states + f) r)

-- the blank tape is kept away from the halt state
pub record BlankIsKept (a : ListedAutomata) : Type 0 where
  pub blank : slice_index a.delta 0 ≡ 0
  pub start : IsTrue (has_item a.keep 0)
  pub kept : LeadInto a a.keep Zero a.keep (length a.keep)
