-- What only the code needs: how a tape is kept in words, how many ones these have and where they can stand, and one
-- half of what it means that two half tapes are the same.
use Rattle.std.specs.Prelude.{◌≡◌, ℕ, ◌+◌, ◌-◌, ◌*◌, ◌^◌, ◌<◌, ◌≤◌, ℤ, pos, ◌+ℤ◌, ◌-ℤ◌, neg_ℤ, ◌≤ℤ◌, ◌⊎◌, List, [], ◌∷◌, ◌++◌, length, reverse, sum_by}
use Rattle.std.specs.Ordering.{int_cmp}
use Rattle.std.specs.FinSet as set
use Rattle.machine_text.specs.declared.table.Sym.{Sym}
use Rattle.machine_text.specs.declared.table.Sym.TheVariants.{Zero, One}
use Rattle.machine_text.specs.declared.table.Dir.{Dir}
use Rattle.machine_text.specs.declared.table.Dir.TheVariants.{L, R}
use Rattle.law_turing.specs.Terms.{Tape, cell_of, Beyond}
use Rattle.tape.specs.Limits.{place_limit}
use Rattle.tape.specs.Cells.{ones_of, symbols, symbols_of}

-- places are numbered from -2^63 on; the word numbered n holds those numbered from 64 * n on
abbrev pub place_numbered : ℕ → ℤ
place_numbered n = pos n -ℤ pos (2 ^ 63)

-- the tape whose head stands on a bit of the word numbered `block`, with the words on each side of that one, the
-- nearest one last
abbrev pub stored : ℕ → ℕ → List ℕ → ℕ → List ℕ → Tape
stored block bit left word right = record {
  head = place_numbered (64 * block + bit);
  ones = ones_of (place_numbered (64 * block) -ℤ pos (64 * length left)) (symbols_of (left ++ word ∷ reverse right));
}

-- how many ones a symbol is
abbrev pub symbol_ones : Sym → ℕ
symbol_ones Zero = 0
symbol_ones One = 1

-- how many cells of a word hold a one
unfoldable pub word_ones : ℕ → ℕ
word_ones w = sum_by symbol_ones (symbols 64 w)

-- a side gives its nearest word, or a blank one where it has none; which words it has then
abbrev pub IsNearest : List ℕ → ℕ → List ℕ → Type 0
IsNearest side word rest = (side ≡ rest ++ word ∷ []) ⊎ ((side ≡ []) × (rest ≡ []) × (word ≡ 0))

-- the head stands in its word, and the words are some to which heads came that were within the limit before each
-- move, where so many stand on each side
pub record IsPacked (block bit left right : ℕ) : Type 0 where
  pub inside : bit < 64
  pub low : 2 ^ 56 + left ≤ block + 1
  pub high : block + right ≤ 2 ^ 57 + 2 ^ 56

-- all the ones stand from one place to another
pub record HasOnesWithin (ones : set.FinSet int_cmp) (first last : ℤ) : Type 0 where
  pub low : (x : ℤ) → cell_of ones x ≡ One → first ≤ℤ x
  pub high : (x : ℤ) → cell_of ones x ≡ One → x ≤ℤ last

-- all the ones stand in words to which such heads came
abbrev pub IsReached : set.FinSet int_cmp → Type 0
IsReached ones = HasOnesWithin ones (neg_ℤ place_limit -ℤ pos 64) (place_limit +ℤ pos 63)

-- each one at or beyond a place has a one of the other tape `shift` further to the right
abbrev pub OnesWithin : Dir → ℤ → ℤ → set.FinSet int_cmp → set.FinSet int_cmp → Type 0
OnesWithin side from shift ones others = (x : ℤ) → Beyond side from x → cell_of ones x ≡ One
    → cell_of others (x +ℤ shift) ≡ One

-- the same for the ones of the word so numbered alone
abbrev pub WordWithin : Dir → ℤ → ℤ → ℕ → set.FinSet int_cmp → set.FinSet int_cmp → Type 0
WordWithin side from shift block ones others = (i : ℕ) → i < 64 → Beyond side from (place_numbered (64 * block + i))
    → cell_of ones (place_numbered (64 * block + i)) ≡ One
    → cell_of others (place_numbered (64 * block + i) +ℤ shift) ≡ One

-- the bit so many cells ahead of a bit, on a side
abbrev pub bit_ahead : Dir → ℕ → ℕ → ℕ
bit_ahead L k i = k - i
bit_ahead R k i = k + i

-- so many cells stand in a word from a bit on, towards a side
abbrev pub HasCells : Dir → ℕ → ℕ → Type 0
HasCells L k n = n ≤ k + 1
HasCells R k n = k + n ≤ 64

-- the leftmost of them
abbrev pub IsLowest : Dir → ℕ → ℕ → ℕ → Type 0
IsLowest L k n low = low + n ≡ k + 1
IsLowest R k n low = low ≡ k

-- they are all that the word has there
abbrev pub HasAllCells : Dir → ℕ → ℕ → Type 0
HasAllCells L k n = n ≡ k + 1
HasAllCells R k n = k + n ≡ 64
