-- A machine, machines that are like it, tapes, configurations, steps and runs.
use Rattle.std.specs.Prelude.{◌≡◌, ℕ, ◌<◌, ◌≤◌, Option, Some, None, ◌==◌, if◌then◌else◌, ℤ, pos, ◌+ℤ◌, ◌-ℤ◌, cond, refl, zero, suc}
use Rattle.std.specs.Ordering.{int_cmp}
use Rattle.std.specs.FinSet as set
use Rattle.std.specs.Coded.{Coded, code_by, coded×, coded_ℤ, coded_ℕ}
use Rattle.machine_text.specs.declared.table.Sym.{Sym}
use Rattle.machine_text.specs.declared.table.Entry.{Entry}
use Rattle.machine_text.specs.declared.table.Dir.{Dir}
use Rattle.machine_text.specs.declared.table.Dir.TheVariants.{L, R}
use Rattle.machine_text.specs.declared.table.Sym.TheVariants.{Zero, One}

-- A machine as a function: what it does in a state (by its number) on a symbol, or nothing, where it halts.
-- A table gives its map, `entry_of` of machine_text.
abbrev pub Machine : Type 0
Machine = ℕ → Sym → Option Entry

-- a machine of n states: no entry at a state beyond them, and each next state is one of them
pub record IsMachine (n : ℕ) (m : Machine) : Type 0 where
  pub some : 1 ≤ n
  pub beyond : (q : ℕ) (s : Sym) → n ≤ q → m q s ≡ None
  pub inside : (q : ℕ) (s : Sym) (e : Entry) → m q s ≡ Some e → e.next.0 < n

-- A machine with the names of two of its states exchanged.

-- the state, with a and b exchanged
abbrev pub exchanged : ℕ → ℕ → ℕ → ℕ
exchanged a b q = if q == a then b else if q == b then a else q

-- the entry, with the states of its target exchanged
abbrev pub exchanged_entry : ℕ → ℕ → Option Entry → Option Entry
exchanged_entry a b None = None
exchanged_entry a b (Some e) = Some (record
    { write = e.write; dir = e.dir; next = record { 0 = exchanged a b e.next.0 } })

-- the machine that does in b what m does in a, and in a what m does in b
abbrev pub with_exchanged : ℕ → ℕ → Machine → Machine
with_exchanged a b m = λ q s. exchanged_entry a b (m (exchanged a b q) s)

-- Extensions of a machine: what it does, they do too.

-- every entry of m is the same entry of big
pub record Extends (big m : Machine) : Type 0 where
  pub is : (q : ℕ) (s : Sym) (e : Entry) → m q s ≡ Some e → big q s ≡ Some e

-- The mirror image of a machine: each move goes the other way.
abbrev pub opposite : Dir → Dir
opposite L = R
opposite R = L

abbrev pub mirrored_entry : Option Entry → Option Entry
mirrored_entry None = None
mirrored_entry (Some e) = Some (record { write = e.write; dir = opposite e.dir; next = e.next })

-- the machine with every L and R exchanged
abbrev pub mirrored : Machine → Machine
mirrored m = λ q s. mirrored_entry (m q s)

-- A two-sided tape with a head: a whole number where the head is, and the finite set of the whole numbers
-- where ones stand. All other cells are blank.
pub record Tape : Type 0 where
  pub head : ℤ
  pub ones : set.FinSet int_cmp

abbrev pub tape_code : Coded Tape
tape_code =
    code_by (ℤ × set.FinSet int_cmp) (coded× coded_ℤ (set.code coded_ℤ)) (λ t. (t.head, t.ones))
    (λ p. record { head = p.0; ones = p.1 }) (λ _. refl)

abbrev pub blank : Tape
blank = record { head = pos 0; ones = set.empty }

-- the symbol at a place, where these places hold ones
abbrev pub cell_of : set.FinSet int_cmp → ℤ → Sym
cell_of ones x = cond (set.contains ones x) One Zero

-- the ones after a symbol is written at a place
abbrev pub with_cell : set.FinSet int_cmp → ℤ → Sym → set.FinSet int_cmp
with_cell ones x One = set.insert ones x
with_cell ones x Zero = set.remove ones x

-- the symbol under the head
abbrev pub symbol_read : Tape → Sym
symbol_read t = cell_of t.ones t.head

-- the tape after a symbol is written under the head
abbrev pub written : Tape → Sym → Tape
written t s = record { head = t.head; ones = with_cell t.ones t.head s }

abbrev pub moved_head : ℤ → Dir → ℤ
moved_head x L = x -ℤ pos 1
moved_head x R = x +ℤ pos 1

-- the tape after its head moved by one cell
abbrev pub moved : Tape → Dir → Tape
moved t d = record { head = moved_head t.head d; ones = t.ones }

-- A configuration, the step from one to the next, and the run from the blank tape.

-- a state, by its number, and a tape with its head
pub record Config : Type 0 where
  pub state : ℕ
  pub tape : Tape

abbrev pub config_code : Coded Config
config_code =
    code_by (ℕ × Tape) (coded× coded_ℕ tape_code) (λ c. (c.state, c.tape)) (λ p. record { state = p.0; tape = p.1 })
    (λ _. refl)

-- state A on the blank tape
abbrev pub start : Config
start = record { state = 0; tape = blank }

-- the symbol at a place of a configuration's tape
abbrev pub cell : Config → ℤ → Sym
cell c x = cell_of c.tape.ones x

-- the configuration after an entry is carried out: it writes, moves and changes the state
abbrev pub carried_out : Config → Entry → Config
carried_out c e = record { state = e.next.0; tape = moved (written c.tape e.write) e.dir }

abbrev pub done_by : Config → Option Entry → Option Config
done_by c None = None
done_by c (Some e) = Some (carried_out c e)

-- the configuration after one step; none where there is no entry, which is a halting pair
abbrev pub next : Machine → Config → Option Config
next m c = done_by c (m c.state (symbol_read c.tape))

abbrev pub next_from : Machine → Option Config → Option Config
next_from m None = None
next_from m (Some c) = next m c

-- the configuration after k steps from c, where that many can be carried out
unfoldable pub from : Machine → ℕ → Config → Option Config
from m zero c = Some c
from m (suc k) c = next_from m (from m k c)

-- the configuration after k steps of the run from the blank tape: time k
abbrev pub after : Machine → ℕ → Option Config
after m k = from m k start

-- Configurations that differ by a move of the whole tape.

-- d is c with its head and all its cells moved by t
pub record IsShifted (t : ℤ) (c d : Config) : Type 0 where
  pub state : d.state ≡ c.state
  pub head : d.tape.head ≡ c.tape.head +ℤ t
  pub cells : (x : ℤ) → cell d (x +ℤ t) ≡ cell c x

-- One step, said place by place: what it does to the state, to the head and to each cell.

-- the machine goes from c to d by the entry e
pub record Takes (m : Machine) (c : Config) (e : Entry) (d : Config) : Type 0 where
  pub is : m c.state (symbol_read c.tape) ≡ Some e
  pub state : d.state ≡ e.next.0
  pub head : d.tape.head ≡ moved_head c.tape.head e.dir
  pub here : cell d c.tape.head ≡ e.write
  pub others : (x : ℤ) → (x ≡ c.tape.head → ⊥) → cell d x ≡ cell c x
