-- Lists in a text, and words and local configurations as texts.
use Rattle.std.specs.declared.cmp.Ordering.TheVariants.{Less}
use Rattle.std.specs.Prelude.{◌≡◌, ℕ, ◌+◌, ◌*◌, ◌<◌, ◌≤◌, List, length, take, drop, slice_index, ◌==◌, ◌||◌, Bool, IsTrue, ◌∷◌, ◌++◌, map}
use Rattle.std.specs.Ordering.{nat_cmp}
use Rattle.std.specs.Cmp.Lexicographic.{slice_cmp}
use Rattle.machine_text.specs.declared.table.Sym.{Sym}
use Rattle.machine_text.specs.Terms.{symbol_byte}
use Rattle.law_turing.specs.Terms.{Local}

-- A list in a text: items of one width, with a comma between each two.

-- the item at a place: each stands behind the one before and its comma
abbrev pub item : ℕ → List ℕ → ℕ → List ℕ
item w text k = take w (drop (k * (w + 1)) text)

-- the text is so many items, strictly rising by bytes
pub record IsListing (w count : ℕ) (text : List ℕ) : Type 0 where
  pub size : length text + 1 ≡ count * (w + 1)
  pub commas : (k : ℕ) → k + 1 < count → slice_index text (k * (w + 1) + w) ≡ 44
  pub rising : (k : ℕ) → k + 1 < count → slice_cmp nat_cmp (item w text k) (item w text (k + 1)) ≡ Less

-- these bytes are an item of the text
pub record IsItem (w : ℕ) (text bytes : List ℕ) : Type 0 where
  pub place : ℕ
  pub within : place * (w + 1) + w ≤ length text
  pub is : item w text place ≡ bytes

-- Words and local configurations as texts.

-- a word: its symbols as they stand on the tape, `0` and `1`
abbrev pub word_text : List Sym → List ℕ
word_text w = map symbol_byte w

-- a local configuration: the left word, the letter of the state, the symbol read, the right word, as `0A00`
abbrev pub local_text : Local → List ℕ
local_text c = word_text c.left ++ (65 + c.state) ∷ symbol_byte c.read ∷ word_text c.right

abbrev pub is_digit : ℕ → Bool
is_digit byte = (byte == 48) || (byte == 49)

-- each byte is a symbol
pub record IsWordText (bytes : List ℕ) : Type 0 where
  pub digits : (i : ℕ) → i < length bytes → IsTrue (is_digit (slice_index bytes i))

-- words of g symbols around a state of n and a symbol
pub record IsLocalText (n g : ℕ) (bytes : List ℕ) : Type 0 where
  pub left : IsWordText (take g bytes)
  pub letter : 65 ≤ slice_index bytes g
  pub state : slice_index bytes g < 65 + n
  pub read : IsTrue (is_digit (slice_index bytes (g + 1)))
  pub right : IsWordText (drop (g + 2) bytes)

-- so many items are words, or local configurations
pub record AreWords (g count : ℕ) (text : List ℕ) : Type 0 where
  pub each : (k : ℕ) → k < count → IsWordText (item g text k)

pub record AreLocals (n g count : ℕ) (text : List ℕ) : Type 0 where
  pub each : (k : ℕ) → k < count → IsLocalText n g (item (2 * g + 2) text k)

-- a list of words of g symbols
pub record IsWordList (g : ℕ) (text : List ℕ) : Type 0 where
  pub count : ℕ
  pub listing : IsListing g count text
  pub words : AreWords g count text

-- a list of local configurations
pub record IsLocalList (n g : ℕ) (text : List ℕ) : Type 0 where
  pub count : ℕ
  pub listing : IsListing (2 * g + 2) count text
  pub locals : AreLocals n g count text
