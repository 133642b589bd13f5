-- Places of a tape and its cells in words, sweeps and windows.
use Rattle.std.specs.Prelude.{◌≡◌, ℤ, ◌+ℤ◌, neg_ℤ, ◌≤ℤ◌, ◌≢◌, ◌⊎◌, ℕ, zero, suc, ◌*◌, ◌^◌, ◌<◌, pos, ◌-ℤ◌, ◌%◌, ◌/◌, List, [], ◌∷◌, ◌++◌, ◌+◌}
use Rattle.std.specs.Ordering.{int_cmp}
use Rattle.std.specs.FinSet as set
use Rattle.std.specs.Int.{bit_at}
use Rattle.machine_text.specs.declared.table.Dir.{Dir}
use Rattle.law_turing.specs.Terms.{cell_of, Tape, symbol_read, written, moved, with_cell, Beyond}
use Rattle.tape.specs.Limits.{place_limit}
use Rattle.machine_text.specs.declared.table.Sym.{Sym}
use Rattle.machine_text.specs.declared.table.Dir.TheVariants.{L, R}
use Rattle.machine_text.specs.declared.table.Sym.TheVariants.{Zero, One}

-- Places of a tape: which are within the limit, and what it means that two half tapes are the same.

-- a place, or a shift, of at most the limit's size
pub record IsWithinLimit (x : ℤ) : Type 0 where
  pub low : neg_ℤ place_limit ≤ℤ x
  pub high : x ≤ℤ place_limit

-- each cell at or beyond a place is the same as the other tape's cell `shift` further to the right
abbrev pub SameBeyond : Dir → ℤ → ℤ → set.FinSet int_cmp → set.FinSet int_cmp → Type 0
SameBeyond side from shift ones others = (x : ℤ) → Beyond side from x → cell_of ones x ≡ cell_of others (x +ℤ shift)

-- A sweep: the head goes over cells that hold one symbol, and leaves one symbol in each of them.

-- the tape after so many times a symbol was written and the head moved to a side
unfoldable pub swept : Dir → Sym → Tape → ℕ → Tape
swept d s t zero = t
swept d s t (suc n) = moved (written (swept d s t n) s) d

-- the head may be moved so many times to either side, once at least, and it is still within the limit
pub record MaySweep (limit : ℕ) (t : Tape) : Type 0 where
  pub some : 0 < limit
  pub left : IsWithinLimit (t.head -ℤ pos limit)
  pub right : IsWithinLimit (t.head +ℤ pos limit)

-- so many cells were gone over, at least one, and in each the head read what it read in the first
pub record Sweeps (d : Dir) (s : Sym) (old : Tape) (count : ℕ) (new : Tape) : Type 0 where
  pub some : 0 < count
  pub alike : (i : ℕ) → i < count → symbol_read (swept d s old i) ≡ symbol_read old
  pub after : new ≡ swept d s old count

-- a place to which a head comes from a word's last cell on that side: words of 64 cells follow one another from -2^63 on
abbrev pub IsPastEdge : Dir → ℤ → Type 0
IsPastEdge L x = (n : ℕ) × (x +ℤ pos (2 ^ 63) +ℤ pos 1 ≡ pos (64 * n))
IsPastEdge R x = (n : ℕ) × (x +ℤ pos (2 ^ 63) ≡ pos (64 * n))

-- why a sweep went no further: its limit, another symbol, or the edge of a word
abbrev pub EndsSweep : Dir → ℕ → Tape → ℕ → Tape → Type 0
EndsSweep d limit old count new = (count ≡ limit) ⊎ ((symbol_read new ≢ symbol_read old) ⊎ IsPastEdge d new.head)

-- Symbols on the tape: from a place on, and in words of 64 cells.

-- the ones of a tape that is blank but for some symbols, written from left to right from a place on
unfoldable pub ones_of : ℤ → List Sym → set.FinSet int_cmp
ones_of x [] = set.empty
ones_of x (s ∷ symbols) = with_cell (ones_of (x +ℤ pos 1) symbols) x s

-- the symbol that a bit stands for
abbrev pub bit_symbol : ℕ → Sym
bit_symbol zero = Zero
bit_symbol (suc n) = One

-- the symbols of a word's lowest k bits, the lowest one leftmost
unfoldable pub symbols : ℕ → ℕ → List Sym
symbols zero w = []
symbols (suc k) w = bit_symbol (w % 2) ∷ symbols k (w / 2)

-- the symbols of words of 64 cells, side by side
unfoldable pub symbols_of : List ℕ → List Sym
symbols_of [] = []
symbols_of (w ∷ words) = symbols 64 w ++ symbols_of words

-- a word holds the 64 cells from a place on
abbrev pub Holds : ℕ → set.FinSet int_cmp → ℤ → Type 0
Holds w ones x = (i : ℕ) → i < 64 → bit_symbol (bit_at w i) ≡ cell_of ones (x +ℤ pos i)

-- A window: sixteen cells side by side, the head on one of them.

-- the bits of a number, the lowest one leftmost, are the sixteen cells from a place on
abbrev pub HoldsCells : set.FinSet int_cmp → ℤ → ℕ → Type 0
HoldsCells ones x cells = (i : ℕ) → i < 16 → cell_of ones (x +ℤ pos i) ≡ bit_symbol (bit_at cells i)

-- all cells but the sixteen from a place on are the same
abbrev pub SameBut : ℤ → set.FinSet int_cmp → set.FinSet int_cmp → Type 0
SameBut x ones others = (y : ℤ) → ((i : ℕ) → i < 16 → y ≡ x +ℤ pos i → ⊥) → cell_of others y ≡ cell_of ones y

-- the place beyond the sixteen cells from a place on, on a side, and the last one of them there
abbrev pub place_beyond : Dir → ℤ → ℤ
place_beyond L x = x -ℤ pos 1
place_beyond R x = x +ℤ pos 16

abbrev pub last_place : Dir → ℤ → ℤ
last_place L x = x
last_place R x = x +ℤ pos 15

-- so many cells of its window are left of a head: windows of sixteen cells follow one another from -2^63 on
pub record IsInWindow (at : ℕ) (head : ℤ) : Type 0 where
  pub number : ℕ
  pub place : head +ℤ pos (2 ^ 63) ≡ pos (16 * number + at)
  pub inside : at < 16

-- the window of sixteen cells, of which so many are left of the head, holds these now, and the head has left it to a side
pub record Crosses (at cells : ℕ) (d : Dir) (old new : Tape) : Type 0 where
  pub head : new.head ≡ place_beyond d (old.head -ℤ pos at)
  pub holds : HoldsCells new.ones (old.head -ℤ pos at) cells
  pub others : SameBut (old.head -ℤ pos at) old.ones new.ones
