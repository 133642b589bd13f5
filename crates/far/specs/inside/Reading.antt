-- How far texts are read or written, and lists of numbers.
use Rattle.std.specs.Prelude.{◌≡◌, ℕ, ◌+◌, ◌-◌, ◌<◌, ◌≤◌, List, length, map, take, drop, slice_index, ◌/◌, ◌^◌, [], ◌++◌, get_or}
use Rattle.std.specs.List.{range_with_len}
use Rattle.std.specs.Int.Digits.{digits_of}
use Rattle.far.specs.Limits.{word_bits, move_limit, pair_limit, row_limit}
use Rattle.text.specs.Terms.{parts_of}
use Rattle.far.specs.Texts.{hex_glyph, hex_worth, IsDigit, IsHex, delta_of}

-- Lists of numbers, one behind another.

-- list number k of the items: from its start to that of the next one
abbrev pub list_at : List ℕ → List ℕ → ℕ → List ℕ
list_at starts items k = take (slice_index starts (k + 1) - slice_index starts k) (drop (slice_index starts k) items)

abbrev pub lists_between : List ℕ → List ℕ → List (List ℕ)
lists_between starts items = map (list_at starts items) (range_with_len 0 (length starts - 1))

-- the starts rise, within the items, and the last one is their end
pub record AreStarts (starts items : List ℕ) : Type 0 where
  pub some : 1 ≤ length starts
  pub order : (k : ℕ) → k + 1 < length starts → slice_index starts k ≤ slice_index starts (k + 1)
  pub within : (k : ℕ) → k < length starts → slice_index starts k ≤ length items
  pub end : slice_index starts (length starts - 1) ≡ length items

-- How far texts are read or written.

-- so many digits of a number in hexadecimal are read, and they are its form
pub record IsWorth (text : List ℕ) (reach number : ℕ) : Type 0 where
  pub worth : number ≡ hex_worth (take reach text)
  pub small : number < 2 ^ (pair_limit + 1)
  pub some : 0 < reach → 0 < number
  pub form : map hex_glyph (digits_of 16 number) ≡ take reach text

-- what is left of a number has its digits in front of those that stand in the buffer from a place on
pub record IsWritten (number rest at : ℕ) (buf : List ℕ) : Type 0 where
  pub room : length (digits_of 16 rest) ≤ at
  pub end : at ≤ word_bits / 4
  pub size : length buf ≡ word_bits / 4
  pub digits : map hex_glyph (digits_of 16 rest) ++ drop at buf ≡ map hex_glyph (digits_of 16 number)

-- each number is below a limit
pub record AreBelow (limit : ℕ) (numbers : List ℕ) : Type 0 where
  pub each : (k : ℕ) → k < length numbers → slice_index numbers k < limit

-- so many numbers of delta are read
pub record AreMoves (size : ℕ) (text : List ℕ) (reach : ℕ) (delta : List ℕ) : Type 0 where
  pub length_is : length delta ≡ move_limit
  pub same : take reach delta ≡ delta_of (take reach text)
  pub each : (k : ℕ) → k < reach → IsDigit size (slice_index text k)

-- so many rows are read
pub record AreEdges (limit : ℕ) (text : List ℕ) (reach : ℕ) (left : List (List ℕ)) (rows : List ℕ) : Type 0 where
  pub left_is : left ≡ drop reach (parts_of 44 text)
  pub there : reach ≤ length (parts_of 44 text)
  pub length_is : length rows ≡ row_limit
  pub same : take reach rows ≡ map hex_worth (take reach (parts_of 44 text))
  pub each : (k : ℕ) → k < reach → IsHex limit (get_or (parts_of 44 text) k [])
