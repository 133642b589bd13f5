-- Zippers, half tapes as words, and rules.
use Rattle.std.specs.Prelude.{◌≡◌, ℕ, zero, suc, ℤ, pos, ◌+ℤ◌, ◌-ℤ◌, List, [], ◌∷◌, Option, Some, None, ◌++◌}
use Rattle.machine_text.specs.declared.table.Sym.{Sym}
use Rattle.machine_text.specs.declared.table.Sym.TheVariants.{Zero}
use Rattle.machine_text.specs.declared.table.Dir.{Dir}
use Rattle.machine_text.specs.declared.table.Dir.TheVariants.{L, R}
use Rattle.machine_text.specs.declared.table.Entry.{Entry}
use Rattle.law_turing.specs.Terms.{Machine, Config, cell, from}

-- A configuration as a zipper: two half tapes and a state between them. Each list holds the cells of its half from
-- the middle outwards, and all cells beyond it are blank. The head is on the first cell of one of the two.

-- the left half, the state's number and the right half; the head is on the first cell of the left or of the right one
pub data Zipper : Type 0 where
  AtLeft : List Sym → ℕ → List Sym → Zipper
  AtRight : List Sym → ℕ → List Sym → Zipper

-- state A on the blank tape
abbrev pub blank_zipper : Zipper
blank_zipper = AtRight [] 0 []

-- the nearest cell of a half tape, those behind it, and the cell at a place
abbrev pub first : List Sym → Sym
first [] = Zero
first (s ∷ l) = s

abbrev pub rest : List Sym → List Sym
rest [] = []
rest (s ∷ l) = l

abbrev pub symbol_at : List Sym → ℕ → Sym
symbol_at [] k = Zero
symbol_at (s ∷ l) zero = s
symbol_at (s ∷ l) (suc k) = symbol_at l k

abbrev pub left_half : Zipper → List Sym
left_half (AtLeft l q r) = l
left_half (AtRight l q r) = l

abbrev pub right_half : Zipper → List Sym
right_half (AtLeft l q r) = r
right_half (AtRight l q r) = r

abbrev pub state_of : Zipper → ℕ
state_of (AtLeft l q r) = q
state_of (AtRight l q r) = q

-- the head's place, where the right half begins at x
abbrev pub head_at : Zipper → ℤ → ℤ
head_at (AtLeft l q r) x = x -ℤ pos 1
head_at (AtRight l q r) x = x

-- the zipper is the configuration, somewhere on the tape: the right half begins at the edge
pub record Describes (z : Zipper) (c : Config) : Type 0 where
  pub edge : ℤ
  pub head : c.tape.head ≡ head_at z edge
  pub state : c.state ≡ state_of z
  pub left : (k : ℕ) → cell c (edge -ℤ pos (suc k)) ≡ symbol_at (left_half z) k
  pub right : (k : ℕ) → cell c (edge +ℤ pos k) ≡ symbol_at (right_half z) k

-- after the symbol s was written between two half tapes: the head moved away from it to the left, or to the right
abbrev pub moved_from : Dir → List Sym → ℕ → Sym → List Sym → Zipper
moved_from L l q s r = AtLeft l q (s ∷ r)
moved_from R l q s r = AtRight (s ∷ l) q r

abbrev pub stepped : List Sym → List Sym → Option Entry → Option Zipper
stepped l r None = None
stepped l r (Some e) = Some (moved_from e.dir l e.next.0 e.write r)

-- the zipper after one step; none at a halting pair
abbrev pub step : Machine → Zipper → Option Zipper
step m (AtLeft l q r) = stepped (rest l) r (m q (first l))
step m (AtRight l q r) = stepped l (rest r) (m q (first r))

abbrev pub step_on : Machine → Option Zipper → Option Zipper
step_on m None = None
step_on m (Some z) = step m z

-- the zipper after k steps, where that many can be carried out
unfoldable pub steps : Machine → ℕ → Zipper → Option Zipper
steps m zero z = Some z
steps m (suc k) z = step_on m (steps m k z)

-- Half tapes as words: a word repeated, and half tapes that are the same but for blanks at their far ends.

-- the word w, n times, before l
abbrev pub repeat : List Sym → ℕ → List Sym → List Sym
repeat w zero l = l
repeat w (suc n) l = w ++ repeat w n l

-- the same symbol at each place
pub record SameCells (l k : List Sym) : Type 0 where
  pub cell : (n : ℕ) → symbol_at l n ≡ symbol_at k n

-- Rules: from each configuration that the one zipper is, a run leads to a configuration that the other is.

-- in some number of steps, or none
pub record Comes (m : Machine) (z w : Zipper) : Type 0 where
  pub run : (c : Config) → Describes z c → (k : ℕ) × (d : Config) × (from m k c ≡ Some d) × Describes w d

-- in at least one step
pub record Goes (m : Machine) (z w : Zipper) : Type 0 where
  pub run : (c : Config) → Describes z c → (k : ℕ) × (d : Config) × (from m (suc k) c ≡ Some d) × Describes w d
