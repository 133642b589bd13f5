-- Counted automata, and cosets of points.
use Rattle.std.specs.Prelude.{◌≡◌, ℕ, ℤ, pos, ◌-ℤ◌, ◌*ℤ◌, List, [], ◌∷◌, ◌≢◌, ◌+◌, ◌<◌, ◌≤◌, ◌==◌, if◌then◌else◌, ◌+ℤ◌, ◌<ℤ◌, Contains, Option, Some, None}
use Rattle.machine_text.specs.declared.table.Sym.{Sym}
use Rattle.machine_text.specs.declared.table.Sym.TheVariants.{Zero}
use Rattle.machine_text.specs.declared.table.Dir.{Dir}
use Rattle.machine_text.specs.declared.table.Dir.TheVariants.{L, R}
use Rattle.machine_text.specs.declared.table.State.{State}
use Rattle.machine_text.specs.declared.table.Entry.{Entry}
use Rattle.law_turing.specs.Terms.{Machine, symbol_read, moved_head, Config, cell, opposite, Beyond, behind, symbols_ahead}
use Rattle.law_machines.specs.declared.counted.Count.{Count}
use Rattle.law_machines.specs.declared.counted.Transition.{Transition}
use Rattle.law_machines.specs.declared.counted.Local.{Local}

-- Points with a whole number for each count, and cosets of them: a base, and any whole multiples of some rows.

-- a number for each count
abbrev pub Point : Type 0
Point = ℕ → ℤ

abbrev pub zeros : Point
zeros x = pos 0

-- one point less so many times another
abbrev pub less : Point → ℤ → Point → Point
less v f row = λ x. v x -ℤ (f *ℤ row x)

-- the point is a sum of multiples of the rows
abbrev pub IsSum : List Point → Point → Type 0
IsSum [] v = (x : ℕ) → v x ≡ pos 0
IsSum (row ∷ rows) v = (f : ℤ) × IsSum rows (less v f row)

pub record Coset : Type 0 where
  pub base : Point
  pub rows : List Point

-- the point is the coset's base and a sum of multiples of its rows
pub record IsMember (k : Coset) (v : Point) : Type 0 where
  pub sum : IsSum k.rows (λ x. v x -ℤ k.base x)

-- Counted automata. Two automata read the two half tapes, each from far away towards the head, and count how often
-- some of their transitions are taken. What can stand around the head comes with a coset, in which the counts lie.

-- the transitions of an automaton; some may be missing
abbrev pub Delta : Type 0
Delta = ℕ → Sym → Option Transition

-- how often a transition with this count is counted in x: once, or not at all
abbrev pub once : Option Count → ℕ → ℕ
once None x = 0
once (Some y) x = if y.number == x then 1 else 0

-- the state after what was read, and how often a transition with each count was taken
pub record Reading : Type 0 where
  pub state : ℕ
  pub times : ℕ → ℕ

abbrev pub begun : Reading
begun = record { state = 0; times = λ x. 0 }

abbrev pub further : Reading → Transition → Reading
further r t = record { state = t.to; times = λ x. r.times x + once t.count x }

abbrev pub further_by : Reading → Option Transition → Option Reading
further_by r None = None
further_by r (Some t) = Some (further r t)

abbrev pub read_on : Delta → Sym → Option Reading → Option Reading
read_on a s None = None
read_on a s (Some r) = further_by r (a r.state s)

-- the reading of a word from its end on, if no transition is missing on the way
unfoldable pub reading : Delta → List Sym → Option Reading
reading a [] = Some begun
reading a (s ∷ w) = read_on a s (reading a w)

-- the half tape from a place on, to one side, is read so: so many cells of it that all beyond them are blank
pub record IsHalfRead (a : Delta) (side : Dir) (c : Config) (x : ℤ) (r : Reading) : Type 0 where
  pub far : ℕ
  pub blank : (y : ℤ) → Beyond side (behind (opposite side) x far) y → cell c y ≡ Zero
  pub is : reading a (symbols_ahead side c x far) ≡ Some r

-- no path from 0 to q has a transition with the count x
pub record IsUnused (a : Delta) (q x : ℕ) : Type 0 where
  pub each : (w : List Sym) (r : Reading) → reading a w ≡ Some r → r.state ≡ q → r.times x ≡ 0

-- what stands around the head, and its coset
pub record Item : Type 0 where
  pub at : Local
  pub coset : Coset

-- two automata and the cosets. The counts below `split` are the left automaton's, the others the right one's
pub record CountedSystem : Type 0 where
  pub split : ℕ
  pub left : Delta
  pub right : Delta
  pub items : List Item

-- what stands around the head has this coset
pub record HasCoset (w : CountedSystem) (c : Local) (k : Coset) : Type 0 where
  pub is : Contains w.items (record { at = c; coset = k })

abbrev pub delta : CountedSystem → Dir → Delta
delta w L = w.left
delta w R = w.right

-- x is a count of the automaton on this side
abbrev pub IsOf : CountedSystem → Dir → ℕ → Type 0
IsOf w L x = x < w.split
IsOf w R x = w.split ≤ x

-- the state of the automaton on a side
abbrev pub state_on : Dir → Local → ℕ
state_on L c = c.left
state_on R c = c.right

-- what stands around the head after a move to a side: the automaton there is in q, the other one in p
abbrev pub moved_to : Dir → ℕ → State → Sym → ℕ → Local
moved_to R p f s q = record { left = p; state = f; read = s; right = q }
moved_to L p f s q = record { left = q; state = f; read = s; right = p }

-- a point that remains of a coset's members after a move to a side: the cell that was left behind is read by t, and
-- the one that is under the head now had been read by u, from q on
pub record Remains (w : CountedSystem) (k : Coset) (side : Dir) (t u : Transition) (q : ℕ) (v : Point) : Type 0 where
  pub old : Point
  pub member : IsMember k old
  pub is : (x : ℕ) → v x ≡ (old x +ℤ pos (once t.count x)) -ℤ pos (once u.count x)
  pub unused : (x : ℕ) → IsOf w side x → IsUnused (delta w side) q x → v x ≡ pos 0

-- no point remains, or some count is the same negative number in all that do, or all are members of the next coset
pub data Settled (remains : Point → Type 0) (next : Coset → Type 0) : Type 0 where
  None_remains : ((v : Point) → remains v → ⊥) → Settled remains next
  Negative : (x : ℕ) (n : ℤ) → n <ℤ pos 0 → ((v : Point) → remains v → v x ≡ n) → Settled remains next
  Members : (k : Coset) → next k → ((v : Point) → remains v → IsMember k v) → Settled remains next

-- a step to a side, that writes a symbol and leads to a state of the machine, from the members of the coset of what
-- stands around the head: the other side's automaton reads the symbol, and whatever may now stand around the head, it
-- settles
pub record LeadsOn (w : CountedSystem) (c : Local) (k : Coset) (write : Sym) (next : State) (side : Dir) : Type 0 where
  pub by : Transition
  pub is : delta w (opposite side) (state_on (opposite side) c) write ≡ Some by
  pub settles : (q : ℕ) (b : Sym) (u : Transition) → delta w side q b ≡ Some u → u.to ≡ state_on side c →
      Settled (Remains w k side by u q) (HasCoset w (moved_to side by.to next b q))

-- the counted automata stand for a machine: the blank tape is in its coset, no member halts, and each step settles
pub record CountedStand (m : Machine) (w : CountedSystem) : Type 0 where
  pub blank : (side : Dir) → delta w side 0 Zero ≡ Some (record { to = 0; count = None })
  pub own : (side : Dir) (q : ℕ) (s : Sym) (t : Transition) (x : Count) → delta w side q s ≡ Some t → t.count ≡ Some x
      → IsOf w side x.number
  pub start : (k : Coset) × HasCoset w (record { left = 0; state = record { 0 = 0 }; read = Zero; right = 0 }) k
      × IsMember k zeros
  pub goes_on : (c : Local) (k : Coset) → HasCoset w c k → m c.state.0 c.read ≢ None
  pub steps : (c : Local) (k : Coset) (e : Entry) → HasCoset w c k → m c.state.0 c.read ≡ Some e →
      LeadsOn w c k e.write e.next e.dir

-- both half tapes of a configuration are read, and the counts are a member of the coset of what stands around its head
pub record IsHeldBy (w : CountedSystem) (c : Config) : Type 0 where
  pub left : Reading
  pub right : Reading
  pub left_read : IsHalfRead w.left L c (moved_head c.tape.head L) left
  pub right_read : IsHalfRead w.right R c (moved_head c.tape.head R) right
  pub coset : Coset
  pub there : HasCoset w (record {
    left = left.state;
    state = record { 0 = c.state };
    read = symbol_read c.tape;
    right = right.state;
  }) coset
  pub member : IsMember coset (λ x. pos (left.times x + right.times x))
