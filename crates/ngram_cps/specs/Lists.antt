-- Three lists in text, when they are a closed position set of a table, and those that an owned form keeps.
use Rattle.std.specs.Prelude.{◌≡◌, ℕ, ◌+◌, ◌*◌, ◌≤◌, List, length, ◌-◌, ◌/◌, ◌==◌, ◌&&◌, nat_lt, Bool, not, take, drop, slice_index}
use Rattle.std.specs.Ordering.{nat_cmp, is_lt}
use Rattle.std.specs.Cmp.Lexicographic.{slice_cmp}
use Rattle.machine_text.specs.Terms.{Packed, entry_of}
use Rattle.law_turing.specs.Terms.{Local, IsClosedSet}
use Rattle.ngram_cps.specs.Limits.{width_limit, list_byte_limit}
use Rattle.ngram_cps.specs.Words.{IsItem, word_text, local_text, IsWordList, IsLocalList, item, is_digit}
use Rattle.kind_evidence.specs.Terms.{each_below}
use Rattle.ngram_cps.specs.declared.ngram.Ngram.{Ngram}
use Rattle.ngram_cps.specs.declared.ngram.OwnedNgram.{OwnedNgram}

-- Three lists in text, and when they are a closed position set of a table.

-- what they were made for, the words on the left and on the right of a head, and what stands around it
pub record Lists : Type 0 where
  pub states : ℕ
  pub width : ℕ
  pub left : List ℕ
  pub right : List ℕ
  pub local : List ℕ

abbrev pub lists : ℕ → ℕ → List ℕ → List ℕ → List ℕ → Lists
lists states width left right local = record
    { states = states; width = width; left = left; right = right; local = local }

-- each of the texts is a list of its kind
pub record AreLists (s : Lists) : Type 0 where
  pub left : IsWordList s.width s.left
  pub right : IsWordList s.width s.right
  pub local : IsLocalList s.states s.width s.local

-- the words are no wider, and the texts together no longer, than they may be
pub record AreWithin (s : Lists) : Type 0 where
  pub some : 1 ≤ s.width
  pub narrow : s.width ≤ width_limit
  pub short : length s.left + length s.right + length s.local ≤ list_byte_limit

-- a local configuration of this width is in the list
pub record IsLocalItem (s : Lists) (c : Local) : Type 0 where
  pub left : length c.left ≡ s.width
  pub right : length c.right ≡ s.width
  pub listed : IsItem (2 * s.width + 2) s.local (local_text c)

-- the table has as many states as they were made for, and no step of it leaves them
pub record IsPositionSet (s : Lists) (p : Packed) : Type 0 where
  pub states : s.states ≡ p.states
  pub closed : IsClosedSet s.width (entry_of p) (λ w. IsItem s.width s.left (word_text w))
      (λ w. IsItem s.width s.right (word_text w)) (IsLocalItem s)

-- lists of a closed position set of the table, together no longer than they may be
pub record AreClosedLists (s : Lists) (p : Packed) : Type 0 where
  pub lists : AreLists s
  pub closed : IsPositionSet s p
  pub short : length s.left + length s.right + length s.local ≤ list_byte_limit

-- Whether texts are such lists, as tests: a grammar needs an answer, and not the fact alone.

-- how many items of a width a text has, where it is a list
abbrev pub count_of : ℕ → List ℕ → ℕ
count_of w text = (length text + 1) / (w + 1)

-- behind an item stands a comma, and then one that is greater
abbrev pub goes_up : ℕ → List ℕ → ℕ → Bool
goes_up w text k = (slice_index text (k * (w + 1) + w) == 44) && is_lt
    (slice_cmp nat_cmp (item w text k) (item w text (k + 1)))

unfoldable pub is_listing : ℕ → List ℕ → Bool
is_listing w text = (length text + 1 == count_of w text * (w + 1)) && each_below (goes_up w text) (count_of w text - 1)

abbrev pub is_word_text : List ℕ → Bool
is_word_text bytes = each_below (λ i. is_digit (slice_index bytes i)) (length bytes)

abbrev pub is_local_text : ℕ → ℕ → List ℕ → Bool
is_local_text n g bytes =
    is_word_text (take g bytes) && (not (nat_lt (slice_index bytes g) 65) &&
    (nat_lt (slice_index bytes g) (65 + n) &&
    (is_digit (slice_index bytes (g + 1)) && is_word_text (drop (g + 2) bytes))))

unfoldable pub is_word_list : ℕ → List ℕ → Bool
is_word_list g text = is_listing g text && each_below (λ k. is_word_text (item g text k)) (count_of g text)

unfoldable pub is_local_list : ℕ → ℕ → List ℕ → Bool
is_local_list n g text = is_listing (2 * g + 2) text && each_below (λ k. is_local_text n g (item (2 * g + 2) text k))
    (count_of (2 * g + 2) text)

-- whether each of the texts is a list of its kind
unfoldable pub are_lists : Lists → Bool
are_lists s = is_word_list s.width s.left && (is_word_list s.width s.right && is_local_list s.states s.width s.local)

-- The lists that a claim holds.
abbrev pub lists_of : Ngram → Lists
lists_of e = record {
  states = e.states;
  width = e.width;
  left = e.left.text.now;
  right = e.right.text.now;
  local = e.local.text.now;
}

-- The lists that an owned form keeps.
abbrev pub owned_lists : OwnedNgram → Lists
owned_lists o = record {
  states = o.states;
  width = o.width;
  left = take o.left_len o.text.items;
  right = take
      o.right_len (drop o.left_len o.text.items);
  local = drop o.right_len (drop o.left_len o.text.items);
}
