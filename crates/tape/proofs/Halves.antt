-- Half tapes by the places of their words and of their ones.
use Rattle.std.proofs.Common.{◌≡◌, ℕ, zero, suc, ℤ, pos, negsuc, neg_ℤ, ◌+ℤ◌, ◌-ℤ◌, ◌<ℤ◌, ◌≤ℤ◌, ◌<◌, ◌≤◌, ◌+◌, ◌-◌, ◌*◌, ◌/◌, ◌%◌, ◌^◌, min, List, ◌∷◌, ◌++◌, length, reverse, get_or, ◌⊎◌, ◌↔◌, inl, inr, sym, ◌∙◌, ap, refl, arith, subst, Bool, IsTrue, bit_and}
use Rattle.std.specs.Int.{bit_at, w64, saturate_signed, bit_not}
use Rattle.std.specs.Int.RustNames.{bit_or, unsigned_abs}
use Rattle.std.specs.Ordering.{int_cmp}
use Rattle.std.specs.FinSet as set
use Rattle.std.proofs.lemmas.Int.{ints, by_lt_z}
use Rattle.std.proofs.lemmas.Bool.{cases_lt}
use Rattle.std.proofs.lemmas.Nat.Bits.{bit_at-zero, bit_at-lt}
use Rattle.std.proofs.lemmas.List.{get_or_append_left, get_or-append-add, get_or-reverse, get_or_past, length-append, length-reverse}
use Rattle.std.proofs.lemmas.Nat.{and_le_l}
use Rattle.machine_text.specs.declared.table.Sym.{Sym}
use Rattle.machine_text.specs.declared.table.Sym.TheVariants.{Zero, One}
use Rattle.machine_text.specs.declared.table.Dir.{Dir}
use Rattle.machine_text.specs.declared.table.Dir.TheVariants.{L, R}
use Rattle.law_turing.specs.Terms.{cell_of, Tape, Beyond}
use Rattle.tape.specs.Limits.{place_limit}
use Rattle.tape.specs.Cells.{bit_symbol, symbols_of, Holds, SameBeyond}
use Rattle.tape.specs.inside.{stored, place_numbered, IsPacked, HasOnesWithin, IsReached, OnesWithin, WordWithin}
use Rattle.tape.proofs.PackedCells.{blank_before, by_word, cell_of-words, cell_of-between, same_ones, same_tape}
use Rattle.tape.proofs.WordBits.{joined_low, joined_high, bit_of-one, none_missing, missing_none}

-- The words of a stored tape by their distance from the head's, and where its ones end.

-- what a side holds at a distance from the head's word, its nearest word being the last
pub record IsAtDistance (side : List ℕ) (d w : ℕ) : Type 0 where
  pub visited : d ≤ length side → w ≡ get_or side (length side - d) 0
  pub blank : length side < d → w ≡ 0

-- a blank word's bits
blank_bit : (w i : ℕ) → w ≡ 0 → bit_symbol (bit_at w i) ≡ Zero
blank_bit w i blank = ap (λ n. bit_symbol (bit_at n i)) blank ∙ ap bit_symbol (bit_at-zero i)

-- a word left of the head's
pub word_left : (b b' k : ℕ) (left right : List ℕ) (w r d : ℕ) → b' < b → d ≡ b - b' → IsAtDistance left d r → Holds r (stored b k left w right).ones (place_numbered (64 * b'))
word_left b b' k left right w r d before is at i inside =
    elim (cases_lt (length left) d) [
      | inl far ↦ blank_bit r i (at.blank far) ∙ sym (blank_before _ (symbols_of (left ++ w ∷ reverse right)) _ (omega (arith, ints)))
      | inr near ↦ let within : length left - d < length left = omega arith in
          ap (λ n. bit_symbol (bit_at n i)) (at.visited near ∙ sym (get_or_append_left left (w ∷ reverse right) 0 (length left - d) within))
          ∙ sym (cell_of-words _ (left ++ w ∷ reverse right) (length left - d) i _ inside (omega (arith, ints)))
    ]

-- the head's word
pub word_here : (b b' k : ℕ) (left right : List ℕ) (w : ℕ) → b' ≡ b → Holds w (stored b k left w right).ones (place_numbered (64 * b'))
word_here b b' k left right w here i inside = sym (cell_of-between _ left (reverse right) w i _ inside (omega (arith, ints)))

-- a word right of it
pub word_right : (b b' k : ℕ) (left right : List ℕ) (w r d : ℕ) → b < b' → d ≡ b' - b → IsAtDistance right d r → Holds r (stored b k left w right).ones (place_numbered (64 * b'))
word_right b b' k left right w r zero after is at i inside = absurd (omega arith)
word_right b b' k left right w r (suc d) after is at i inside =
    elim (cases_lt (length right) (suc d)) [
      | inl far ↦ blank_bit r i (at.blank far) ∙ sym (seen ∙ ap (λ n. bit_symbol (bit_at n i)) (get_or_past (reverse right) d 0 (omega (arith, length-reverse right))) ∙ ap bit_symbol (bit_at-zero i))
      | inr near ↦ let within : d < length right = omega arith in
          let same : length right - 1 - d ≡ length right - suc d = omega arith in
          ap (λ n. bit_symbol (bit_at n i)) (at.visited near)
          ∙ sym (seen ∙ ap (λ n. bit_symbol (bit_at n i)) (get_or-reverse right d 0 within ∙ ap (λ k. get_or right k 0) same))
    ]
  where
    seen : cell_of (stored b k left w right).ones (place_numbered (64 * b') +ℤ pos i) ≡ bit_symbol (bit_at (get_or (reverse right) d 0) i)
    seen = cell_of-words _ (left ++ w ∷ reverse right) (length left + suc d) i _ inside (omega (arith, ints)) ∙ ap (λ n. bit_symbol (bit_at n i)) (get_or-append-add left (w ∷ reverse right) (suc d) 0)

-- 64 cells from two words side by side
pub Holds-joined : (ones : set.FinSet int_cmp) (n a b : ℕ) → a < 2 ^ 64 → (n % 64 ≡ 0 → ⊥) → Holds a ones (place_numbered (64 * (n / 64))) → Holds b ones (place_numbered (64 * (n / 64 + 1))) → Holds (bit_or (a / 2 ^ (n % 64)) (b * 2 ^ (64 - n % 64) % 2 ^ 64)) ones (place_numbered n)
Holds-joined ones n a b fits some first second i inside =
    elim (cases_lt i (64 - n % 64)) [
      | inl low ↦ let place : place_numbered (64 * (n / 64)) +ℤ pos (n % 64 + i) ≡ place_numbered n +ℤ pos i = omega (arith, ints) in
          ap bit_symbol (joined_low a b (n % 64) i (omega (arith, some)) (omega arith) low) ∙ first (n % 64 + i) (omega arith) ∙ ap (cell_of ones) place
      | inr high ↦ let place : place_numbered (64 * (n / 64 + 1)) +ℤ pos (i - (64 - n % 64)) ≡ place_numbered n +ℤ pos i = omega (arith, ints) in
          ap bit_symbol (joined_high a b (n % 64) i fits (omega (arith, some)) (omega arith) high inside) ∙ second (i - (64 - n % 64)) (omega arith) ∙ ap (cell_of ones) place
    ]

-- the ones of a stored tape stand in its words
pub HasOnesWithin-stored : (b k : ℕ) (left right : List ℕ) (w : ℕ) (first last : ℤ) → first ≡ place_numbered (64 * b) -ℤ pos (64 * length left) → last ≡ (place_numbered (64 * b) +ℤ pos (64 * length right)) +ℤ pos 63 → HasOnesWithin (stored b k left w right).ones first last
HasOnesWithin-stored b k left right w first last begins ends = record {
  low = λ x one. by_lt_z x first (λ out. absurd (let blank : cell_of (stored b k left w right).ones x ≡ Zero = blank_before _ (symbols_of (left ++ w ∷ reverse right)) x (omega (arith, ints)) in cc)) (λ inside. inside);
  high = λ x one. by_lt_z last x (λ out. absurd (let blank = blank_after x out in cc)) (λ inside. inside);
}
  where
    blank_after : (x : ℤ) → last <ℤ x → cell_of (stored b k left w right).ones x ≡ Zero
    blank_after x out = by_word (place_numbered (64 * b) -ℤ pos (64 * length left)) x
        (λ before. absurd (omega (arith, ints)))
        (λ i j inside e. cell_of-words _ (left ++ w ∷ reverse right) i j x inside e ∙ blank_bit _ j (get_or_past (left ++ w ∷ reverse right) i 0 (omega (arith, ints, e, length-append left (w ∷ reverse right), length-reverse right))))

-- so they stand where heads within the limit can have come
pub IsReached-packed : (ones : set.FinSet int_cmp) (b k l r : ℕ) (first last : ℤ) → HasOnesWithin ones first last → first ≡ place_numbered (64 * b) -ℤ pos (64 * l) → last ≡ (place_numbered (64 * b) +ℤ pos (64 * r)) +ℤ pos 63 → IsPacked b k l r → IsReached ones
IsReached-packed ones b k l r first last within begins ends packed = record {
  low = λ x one. let low = packed.low in omega (arith, ints, within.low x one);
  high = λ x one. let high = packed.high in omega (arith, ints, within.high x one);
}

-- beyond them all is blank
pub blank_far : (ones : set.FinSet int_cmp) (x : ℤ) → IsReached ones → ((place_limit +ℤ pos 63) <ℤ x) ⊎ (x <ℤ (neg_ℤ place_limit -ℤ pos 64)) → cell_of ones x ≡ Zero
blank_far ones x reached far = go (cell_of ones x) refl far
  where
    go : (s : Sym) → cell_of ones x ≡ s → ((place_limit +ℤ pos 63) <ℤ x) ⊎ (x <ℤ (neg_ℤ place_limit -ℤ pos 64)) → cell_of ones x ≡ Zero
    go Zero is far = is
    go One is (inl after) = absurd (omega (arith, ints, reached.high x is))
    go One is (inr before) = absurd (omega (arith, ints, reached.low x is))

-- a word whose first place has no number of the program's is blank
pub Holds-far : (ones : set.FinSet int_cmp) (x : ℤ) → IsReached ones → ((x +ℤ pos (2 ^ 63)) <ℤ pos 0) ⊎ (pos (2 ^ 64) ≤ℤ (x +ℤ pos (2 ^ 63))) → Holds 0 ones x
Holds-far ones x reached (inl before) i inside = ap bit_symbol (bit_at-zero i) ∙ sym (blank_far ones _ reached (inr (omega (arith, ints))))
Holds-far ones x reached (inr after) i inside = ap bit_symbol (bit_at-zero i) ∙ sym (blank_far ones _ reached (inl (omega (arith, ints))))

-- a number is kept, or it is beyond the range of the program's numbers and the last one of it is taken
data Saturated (z : ℤ) : Type 0 where
  kept : saturate_signed w64 z ≡ z → Saturated z
  above : pos (2 ^ 63) ≤ℤ z → saturate_signed w64 z ≡ pos (2 ^ 63 - 1) → Saturated z
  below : z <ℤ negsuc (2 ^ 63 - 1) → saturate_signed w64 z ≡ negsuc (2 ^ 63 - 1) → Saturated z

saturated : (z : ℤ) → Saturated z
saturated (pos n) = elim (cases_lt n (2 ^ 63)) [
  | inl small ↦ kept (let same : min n (2 ^ 63 - 1) ≡ n = omega arith in ap pos same)
  | inr large ↦ above (omega (arith, ints)) (let last : min n (2 ^ 63 - 1) ≡ 2 ^ 63 - 1 = omega arith in ap pos last)
]
saturated (negsuc n) = elim (cases_lt n (2 ^ 63)) [
  | inl small ↦ kept (let same : min n (2 ^ 63 - 1) ≡ n = omega arith in ap negsuc same)
  | inr large ↦ below (omega (arith, ints)) (let last : min n (2 ^ 63 - 1) ≡ 2 ^ 63 - 1 = omega arith in ap negsuc last)
]

-- the same ones stand at or beyond a place that is beyond that range as at or beyond the last one of it
pub Beyond-saturated : (side : Dir) (from x : ℤ) → (neg_ℤ place_limit -ℤ pos 64) ≤ℤ x → x ≤ℤ (place_limit +ℤ pos 63) → Beyond side (saturate_signed w64 from) x ↔ Beyond side from x
Beyond-saturated L from x low high = elim (saturated from) [
  | kept same ↦ (λ b. omega (arith, ints, same), λ b. omega (arith, ints, same))
  | above far last ↦ (λ b. omega (arith, ints, last), λ b. omega (arith, ints, last))
  | below far last ↦ (λ b. absurd (omega (arith, ints, last)), λ b. absurd (omega (arith, ints, last)))
]
Beyond-saturated R from x low high = elim (saturated from) [
  | kept same ↦ (λ b. omega (arith, ints, same), λ b. omega (arith, ints, same))
  | above far last ↦ (λ b. absurd (omega (arith, ints, last)), λ b. absurd (omega (arith, ints, last)))
  | below far last ↦ (λ b. omega (arith, ints, last), λ b. omega (arith, ints, last))
]

-- Half tapes by their ones: a loop over the places of a half, and that two halves are the same where each
-- has the ones of the other.

-- a loop from the word `begin` on has come to the word `block`, and each one before it has its one in the other tape
pub record IsLookedAt (side : Dir) (from shift : ℤ) (begin block : ℕ) (ones others : set.FinSet int_cmp) : Type 0 where
  pub ordered : begin ≤ block
  pub ones_are_in : (x : ℤ) → place_numbered (64 * begin) ≤ℤ x → x <ℤ place_numbered (64 * block) → Beyond side from x → cell_of ones x ≡ One → cell_of others (x +ℤ shift) ≡ One

-- one word more
pub IsLookedAt-more : (side : Dir) (from shift : ℤ) (begin block next : ℕ) (ones others : set.FinSet int_cmp) → next ≡ block + 1 → IsLookedAt side from shift begin block ones others → WordWithin side from shift block ones others → IsLookedAt side from shift begin next ones others
IsLookedAt-more side from shift begin block next ones others more before here = record {
  ordered = let ordered = before.ordered in omega arith;
  ones_are_in = λ x low lt beyond one. by_lt_z x (place_numbered (64 * block))
      (λ less. before.ones_are_in x low less beyond one)
      (λ le. let i = unsigned_abs (x -ℤ place_numbered (64 * block)) in
      let place : x ≡ place_numbered (64 * block + i) = omega (arith, ints) in
      ap (λ z. cell_of others (z +ℤ shift)) place
      ∙ here i (omega (arith, ints)) (subst (Beyond side from) place beyond) (sym (ap (cell_of ones) place) ∙ one));
}

-- all the words that can hold ones were looked at
pub OnesWithin-looked : (side : Dir) (from shift : ℤ) (begin end block : ℕ) (ones others : set.FinSet int_cmp) → HasOnesWithin ones (place_numbered (64 * begin)) (place_numbered (64 * end) -ℤ pos 1) → IsLookedAt side from shift begin block ones others → end ≤ block → OnesWithin side from shift ones others
OnesWithin-looked side from shift begin end block ones others within looked done x beyond one =
    looked.ones_are_in x (within.low x one) (omega (arith, ints, within.high x one)) beyond one

-- a test of one word with the mask of its places at or beyond another place
pub WordWithin-bits : (side : Dir) (from shift : ℤ) (block a m b : ℕ) (ones others : set.FinSet int_cmp) (r : Bool) → a < 2 ^ 64 → m < 2 ^ 64 → b < 2 ^ 64
    → Holds a ones (place_numbered (64 * block)) → ((i : ℕ) → i < 64 → (bit_at m i ≡ 1) ↔ Beyond side from (place_numbered (64 * block + i))) → Holds b others (place_numbered (64 * block) +ℤ shift)
    → (IsTrue r ↔ (bit_and (bit_and a m) (bit_not w64 b) ≡ 0)) → IsTrue r ↔ WordWithin side from shift block ones others
WordWithin-bits side from shift block a m b ones others r fits_a fits_m fits_b first mask second test = (there, back)
  where
    here : (i : ℕ) → place_numbered (64 * block) +ℤ pos i ≡ place_numbered (64 * block + i)
    here i = omega (arith, ints)

    away : (i : ℕ) → (place_numbered (64 * block) +ℤ shift) +ℤ pos i ≡ place_numbered (64 * block + i) +ℤ shift
    away i = omega (arith, ints)

    there : IsTrue r → WordWithin side from shift block ones others
    there t i inside beyond one =
        let set : bit_at a i ≡ 1 = bit_of-one (bit_at a i) (bit_at-lt a i) (first i inside ∙ ap (cell_of ones) (here i) ∙ one) in
        let found : bit_at b i ≡ 1 = none_missing a m b fits_b (test.0 t) i inside set ((mask i inside).1 beyond) in
        sym (ap (cell_of others) (away i)) ∙ sym (second i inside) ∙ ap bit_symbol found

    back : WordWithin side from shift block ones others → IsTrue r
    back all = test.1 (missing_none a m b fits_a fits_b (omega (arith, and_le_l (bit_and a m) (bit_not w64 b), and_le_l a m)) (λ i inside set masked.
        bit_of-one (bit_at b i) (bit_at-lt b i) (second i inside ∙ ap (cell_of others) (away i) ∙ all i inside ((mask i inside).0 masked) (sym (ap (cell_of ones) (here i)) ∙ sym (first i inside) ∙ ap bit_symbol set))))

-- to begin at the last place of the program's range, in place of one beyond it, skips and adds no one
pub OnesWithin-saturated : (side : Dir) (ones others : set.FinSet int_cmp) (from shift : ℤ) → IsReached ones → OnesWithin side (saturate_signed w64 from) shift ones others ↔ OnesWithin side from shift ones others
OnesWithin-saturated side ones others from shift reached = (
  λ within x beyond one. within x ((Beyond-saturated side from x (reached.low x one) (reached.high x one)).1 beyond) one,
  λ within x beyond one. within x ((Beyond-saturated side from x (reached.low x one) (reached.high x one)).0 beyond) one,
)

Beyond-shifted : (side : Dir) (from shift x : ℤ) → Beyond side from x → Beyond side (from +ℤ shift) (x +ℤ shift)
Beyond-shifted L from shift x beyond = omega (arith, ints)
Beyond-shifted R from shift x beyond = omega (arith, ints)

Beyond-back : (side : Dir) (from shift x : ℤ) → Beyond side (from +ℤ shift) x → Beyond side from (x +ℤ neg_ℤ shift)
Beyond-back L from shift x beyond = omega (arith, ints)
Beyond-back R from shift x beyond = omega (arith, ints)

-- two halves with each other's ones are the same
pub SameBeyond-within : (side : Dir) (ones others : set.FinSet int_cmp) (from shift : ℤ) → OnesWithin side from shift ones others → OnesWithin side (from +ℤ shift) (neg_ℤ shift) others ones → SameBeyond side from shift ones others
SameBeyond-within side ones others from shift there back x beyond =
    go (cell_of ones x) (cell_of others (x +ℤ shift)) refl refl
  where
    go : (s t : Sym) → cell_of ones x ≡ s → cell_of others (x +ℤ shift) ≡ t → cell_of ones x ≡ cell_of others (x +ℤ shift)
    go One t here away = here ∙ sym (there x beyond here)
    go Zero Zero here away = here ∙ sym away
    go Zero One here away =
        let place : (x +ℤ shift) +ℤ neg_ℤ shift ≡ x = omega (arith, ints) in
        sym (ap (cell_of ones) place) ∙ back (x +ℤ shift) (Beyond-shifted side from shift x beyond) away ∙ sym away

-- and halves that are the same have each other's ones
pub OnesWithin-back : (side : Dir) (ones others : set.FinSet int_cmp) (from shift : ℤ) → SameBeyond side from shift ones others → OnesWithin side (from +ℤ shift) (neg_ℤ shift) others ones
OnesWithin-back side ones others from shift same y beyond one =
    let place : (y +ℤ neg_ℤ shift) +ℤ shift ≡ y = omega (arith, ints) in
    same (y +ℤ neg_ℤ shift) (Beyond-back side from shift y beyond) ∙ ap (cell_of others) place ∙ one

-- what the second look says of the halves, once the first found its ones
pub SameBeyond-second : (side : Dir) (ones others : set.FinSet int_cmp) (from shift begin back : ℤ) (r : Bool) → OnesWithin side from shift ones others → IsReached others → (IsTrue r ↔ OnesWithin side begin back others ones) → begin ≡ saturate_signed w64 (from +ℤ shift) → back ≡ neg_ℤ shift → IsTrue r ↔ SameBeyond side from shift ones others
SameBeyond-second side ones others from shift begin back r there reached second begins backs =
    let whole = OnesWithin-saturated side others ones (from +ℤ shift) (neg_ℤ shift) reached in
    let looked : IsTrue r ↔ OnesWithin side (saturate_signed w64 (from +ℤ shift)) (neg_ℤ shift) others ones =
    subst (λ (b : ℤ). IsTrue r ↔ OnesWithin side b (neg_ℤ shift) others ones) begins (subst (λ (s : ℤ). IsTrue r ↔ OnesWithin side begin s others ones) backs second)
    in
    (λ t. SameBeyond-within side ones others from shift there (whole.0 (looked.0 t)), λ same. looked.1 (whole.1 (OnesWithin-back side ones others from shift same)))

-- two tapes are the same where their heads, the half up to place 0 and the half from there on are
pub same_tape-halves : (t u : Tape) → t.head ≡ u.head → SameBeyond L (pos 0) (pos 0) t.ones u.ones → SameBeyond R (pos 0) (pos 0) t.ones u.ones → t ≡ u
same_tape-halves t u head left right = same_tape t u head (same_ones t.ones u.ones same)
  where
    same : (q : ℤ) → cell_of t.ones q ≡ cell_of u.ones q
    same q =
        let place : q +ℤ pos 0 ≡ q = omega (arith, ints) in
        by_lt_z q (pos 0) (λ lt. left q (omega (arith, ints)) ∙ ap (cell_of u.ones) place) (λ le. right q le ∙ ap (cell_of u.ones) place)

-- a tape is the same as itself on both sides
pub SameBeyond-itself : (side : Dir) (t u : Tape) → t ≡ u → SameBeyond side (pos 0) (pos 0) t.ones u.ones
SameBeyond-itself side t u same x beyond =
    let place : x ≡ x +ℤ pos 0 = omega (arith, ints) in ap (λ (a : Tape). cell_of a.ones x) same ∙ ap (cell_of u.ones) place
