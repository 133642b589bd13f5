-- What the crate's own code needs to say of its steps; no public contract speaks of it.
use Rattle.std.specs.declared.cmp.Ordering.TheVariants.{Less, Greater}
use Rattle.std.specs.Prelude.{◌≡◌, ℕ, ◌+◌, ◌*◌, ◌<◌, ◌≤◌, List, slice_index, ◌-◌, [], ◌∷◌, ◌++◌, length, take, drop, replicate, Option, Some, None}
use Rattle.std.specs.Ordering.{nat_cmp}
use Rattle.std.specs.Cmp.Lexicographic.{slice_cmp}
use Rattle.ngram_cps.specs.Words.{item, IsItem}
use Rattle.machine_text.specs.declared.table.Dir.{Dir}
use Rattle.machine_text.specs.declared.table.Dir.TheVariants.{L, R}
use Rattle.machine_text.specs.declared.table.Entry.{Entry}
use Rattle.machine_text.specs.Terms.{symbol_of, symbol_byte}
use Rattle.law_turing.specs.Terms.{Machine}
use Rattle.ngram_cps.specs.Limits.{width_limit}
use Rattle.ngram_cps.specs.Lists.{Lists}

-- The search of a word in a sorted list.

-- the items up to one rise
pub record RisesTo (w reach : ℕ) (text : List ℕ) : Type 0 where
  pub commas : (k : ℕ) → k + 1 < reach → slice_index text (k * (w + 1) + w) ≡ 44
  pub rising : (k : ℕ) → k + 1 < reach → slice_cmp nat_cmp (item w text k) (item w text (k + 1)) ≡ Less

-- if a word is there at all, it stands between two places
pub record StandsBetween (w count : ℕ) (text word : List ℕ) (low high : ℕ) : Type 0 where
  pub order : low ≤ high
  pub last : high ≤ count
  pub below : (k : ℕ) → k < low → slice_cmp nat_cmp (item w text k) word ≡ Less
  pub above : (k : ℕ) → high ≤ k → k < count → slice_cmp nat_cmp (item w text k) word ≡ Greater

-- What a step of a table asks of three lists, over the bytes of one local configuration.

-- a width that may be, and as many bytes as a local configuration of it has
pub record HasWidth (g : ℕ) (bytes : List ℕ) : Type 0 where
  pub some : 1 ≤ g
  pub narrow : g ≤ width_limit
  pub size : length bytes ≡ 2 * g + 2

-- after a move to the right: the left word, with the written symbol; the right word, with one that comes into
-- view; what then stands around the head
unfoldable pub left_after : ℕ → List ℕ → ℕ → List ℕ
left_after g bytes write = take (g - 1) (drop 1 bytes) ++ write ∷ []

unfoldable pub right_seen : ℕ → List ℕ → ℕ → List ℕ
right_seen g bytes seen = take (g - 1) (drop (g + 3) bytes) ++ seen ∷ []

unfoldable pub local_right : ℕ → List ℕ → ℕ → ℕ → ℕ → List ℕ
local_right g bytes write next seen = left_after g bytes write ++ next ∷ slice_index bytes (g + 2)
    ∷ right_seen g bytes seen

-- after a move to the left
unfoldable pub right_after : ℕ → List ℕ → ℕ → List ℕ
right_after g bytes write = write ∷ take (g - 1) (drop (g + 2) bytes)

unfoldable pub left_seen : ℕ → List ℕ → ℕ → List ℕ
left_seen g bytes seen = seen ∷ take (g - 1) bytes

unfoldable pub local_left : ℕ → List ℕ → ℕ → ℕ → ℕ → List ℕ
local_left g bytes write next seen = left_seen g bytes seen ++ next ∷ slice_index bytes (g - 1)
    ∷ right_after g bytes write

-- one more symbol may come into view only with the local configuration to which it belongs
abbrev pub FollowsRight : Lists → List ℕ → Entry → ℕ → Type 0
FollowsRight s bytes e seen =
    IsItem s.width s.right (right_seen s.width bytes seen)
    → IsItem (2 * s.width + 2) s.local (local_right s.width bytes (symbol_byte e.write) (65 + e.next.0) seen)

abbrev pub FollowsLeft : Lists → List ℕ → Entry → ℕ → Type 0
FollowsLeft s bytes e seen =
    IsItem s.width s.left (left_seen s.width bytes seen)
    → IsItem (2 * s.width + 2) s.local (local_left s.width bytes (symbol_byte e.write) (65 + e.next.0) seen)

pub record StepsRight (s : Lists) (bytes : List ℕ) (e : Entry) : Type 0 where
  pub leaves : IsItem s.width s.left (left_after s.width bytes (symbol_byte e.write))
  pub zero : FollowsRight s bytes e 48
  pub one : FollowsRight s bytes e 49

pub record StepsLeft (s : Lists) (bytes : List ℕ) (e : Entry) : Type 0 where
  pub leaves : IsItem s.width s.right (right_after s.width bytes (symbol_byte e.write))
  pub zero : FollowsLeft s bytes e 48
  pub one : FollowsLeft s bytes e 49

abbrev pub FollowsSide : Dir → Lists → List ℕ → Entry → Type 0
FollowsSide L s bytes e = StepsLeft s bytes e
FollowsSide R s bytes e = StepsRight s bytes e

abbrev pub StepsBy : Option Entry → Lists → List ℕ → Type 0
StepsBy None s bytes = ⊥
StepsBy (Some e) s bytes = FollowsSide e.dir s bytes e

-- the local configuration has a step, which stays in the lists
unfoldable pub GoesOn : Machine → Lists → List ℕ → Type 0
GoesOn m s bytes = StepsBy (m (slice_index bytes s.width - 65) (symbol_of (slice_index bytes (s.width + 1) - 48))) s
    bytes

-- so many of the local configurations do
pub record EachGoesOn (m : Machine) (s : Lists) (reach : ℕ) : Type 0 where
  pub each : (k : ℕ) → k < reach → GoesOn m s (item (2 * s.width + 2) s.local k)

-- the blank tape is in the lists
pub record HoldBlank (s : Lists) : Type 0 where
  pub left : IsItem s.width s.left (replicate s.width 48)
  pub right : IsItem s.width s.right (replicate s.width 48)
  pub local : IsItem (2 * s.width + 2) s.local (replicate s.width 48 ++ 65 ∷ 48 ∷ replicate s.width 48)
