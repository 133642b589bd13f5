-- The bits of masks, of shifted words, and of words in which several are set or cleared.
use Rattle.std.proofs.Common.{◌≡◌, ℕ, zero, suc, ◌<◌, ◌≤◌, ◌+◌, ◌-◌, ◌*◌, ◌/◌, ◌%◌, ◌^◌, ◌↔◌, bit_and, bit_or, sym, ◌∙◌, ap, refl, arith, inl, inr, ◌≢◌, div-lt_iff_lt-mul, le-div_iff_mul-le}
use Rattle.std.specs.Int.{bit_at, bit_not, w64, trailing_zeros}
use Rattle.std.proofs.lemmas.Bool.{cases_lt}
use Rattle.std.proofs.lemmas.Nat.{shr-shr, pow_pos, pow-add}
use Rattle.std.proofs.lemmas.Nat.Bits.{bit_at-lt, bit_at-zero, bit_at_above, bit_at_and, bit_at_or, bit_at_not, bit_at_cat_low, bit_at_cat_high, bit_at_mask_below, bit_at_mask_inside, bit_at_ones, bit_at_ones_above, ones_shl, ones_shr, same_from_bits_below, shr_and_one, bit_at-trailing_zeros}
use Rattle.machine_text.specs.declared.table.Sym.TheVariants.{One, Zero}
use Rattle.tape.specs.Cells.{bit_symbol}
use Rattle.machine_text.specs.declared.table.Dir.{Dir}
use Rattle.machine_text.specs.declared.table.Dir.TheVariants.{L, R}
use Rattle.tape.specs.inside.{bit_ahead, HasCells, IsLowest}

-- The bits of masks, of shifted words, and what a test of a word says of them.

-- the symbol by the test of its bit
one_of : (x : ℕ) → (x ≡ 0 → ⊥) → One ≡ bit_symbol x
one_of zero apart = absurd (apart refl)
one_of (suc x) apart = refl

pub bit_symbol-set : (n k : ℕ) → (bit_and (n / 2 ^ k) 1 ≡ 0 → ⊥) → One ≡ bit_symbol (bit_at n k)
bit_symbol-set n k set = one_of (bit_at n k) (λ e. set (shr_and_one n k ∙ e))

-- a bit that stands for a one
pub bit_of-one : (x : ℕ) → x < 2 → bit_symbol x ≡ One → x ≡ 1
bit_of-one zero small one = absurd cc
bit_of-one (suc zero) small one = refl
bit_of-one (suc (suc x)) small one = absurd (omega (arith, small))

-- ones up to a bit
pub up_to_bits : (k i : ℕ) → k < 64 → i < 64 → (bit_at ((2 ^ 64 - 1) / 2 ^ (63 - k)) i ≡ 1) ↔ (i < k + 1)
up_to_bits k i within inside = (
  λ one. elim (cases_lt i (k + 1)) [ inl lt ↦ lt | inr ge ↦ absurd (omega (arith, same, one, bit_at_ones_above (k + 1) i ge)) ],
  λ lt. same ∙ bit_at_ones (k + 1) i lt,
)
  where
    length_is : 64 - (63 - k) ≡ k + 1
    length_is = omega arith

    same : bit_at ((2 ^ 64 - 1) / 2 ^ (63 - k)) i ≡ bit_at (2 ^ (k + 1) - 1) i
    same = ap (λ n. bit_at n i) (ones_shr 64 (63 - k) (omega arith)) ∙ ap (λ e. bit_at (2 ^ e - 1) i) length_is

-- ones from a bit on
pub from_bits : (k i : ℕ) → k < 64 → i < 64 → (bit_at ((2 ^ 64 - 1) * 2 ^ k % 2 ^ 64) i ≡ 1) ↔ (k ≤ i)
from_bits k i within inside = (
  λ one. elim (cases_lt i k) [ inl lt ↦ absurd (omega (arith, same, one, bit_at_mask_below k 64 i lt)) | inr le ↦ le ],
  λ le. same ∙ bit_at_mask_inside k 64 i le inside,
)
  where
    same : bit_at ((2 ^ 64 - 1) * 2 ^ k % 2 ^ 64) i ≡ bit_at (2 ^ 64 - 2 ^ k) i
    same = ap (λ n. bit_at n i) (ones_shl 64 k (omega arith))

-- the bits of a word that is cut off above
pub bit_at_low : (n i : ℕ) → i < 64 → bit_at (n % 2 ^ 64) i ≡ bit_at n i
bit_at_low n i inside =
    let parts : n ≡ n / 2 ^ 64 * 2 ^ 64 + n % 2 ^ 64 = omega arith in
    sym (ap (λ m. bit_at m i) parts ∙ bit_at_cat_low (n / 2 ^ 64) 64 (n % 2 ^ 64) i inside)

-- a word whose bits are moved down by k
pub shifted_down : (a k i : ℕ) → bit_at (a / 2 ^ k) i ≡ bit_at a (k + i)
shifted_down a k i = ap (λ n. n % 2) (shr-shr a k i)

-- two words side by side, from bit k of the first one on
pub joined_low : (a b k i : ℕ) → 0 < k → k < 64 → i < 64 - k → bit_at (bit_or (a / 2 ^ k) (b * 2 ^ (64 - k) % 2 ^ 64)) i ≡ bit_at a (k + i)
joined_low a b k i some within low =
    let sum : b * 2 ^ (64 - k) ≡ b * 2 ^ (64 - k) + 0 = omega arith in
    let other : bit_at (b * 2 ^ (64 - k) % 2 ^ 64) i ≡ 0 =
    bit_at_low _ i (omega arith) ∙ ap (λ n. bit_at n i) sum ∙ bit_at_cat_low b (64 - k) 0 i low ∙ bit_at-zero i
    in
    omega (arith, bit_at_or (a / 2 ^ k) (b * 2 ^ (64 - k) % 2 ^ 64) i, other, shifted_down a k i)

pub joined_high : (a b k i : ℕ) → a < 2 ^ 64 → 0 < k → k < 64 → 64 - k ≤ i → i < 64 → bit_at (bit_or (a / 2 ^ k) (b * 2 ^ (64 - k) % 2 ^ 64)) i ≡ bit_at b (i - (64 - k))
joined_high a b k i fits some within high inside =
    let sum : b * 2 ^ (64 - k) ≡ b * 2 ^ (64 - k) + 0 = omega arith in
    let above : bit_at a (k + i) ≡ 0 = bit_at_above a 64 (k + i) fits (omega arith) in
    let other : bit_at (b * 2 ^ (64 - k) % 2 ^ 64) i ≡ bit_at b (i - (64 - k)) =
    bit_at_low _ i inside ∙ ap (λ n. bit_at n i) sum ∙ bit_at_cat_high b (64 - k) 0 i (pow_pos (64 - k)) high
    in
    omega (arith, bit_at_or (a / 2 ^ k) (b * 2 ^ (64 - k) % 2 ^ 64) i, other, shifted_down a k i, above)

-- no bit of one word and a mask is missing in another word
pub none_missing : (a m b : ℕ) → b < 2 ^ 64 → bit_and (bit_and a m) (bit_not w64 b) ≡ 0 → (i : ℕ) → i < 64 → bit_at a i ≡ 1 → bit_at m i ≡ 1 → bit_at b i ≡ 1
none_missing a m b fits none i inside one masked =
    omega (arith, ap (λ n. bit_at n i) none, bit_at-zero i, bit_at_and (bit_and a m) (bit_not w64 b) i, bit_at_and a m i, bit_at_not w64 b i fits inside, one, masked, bit_at-lt b i)

pub missing_none : (a m b : ℕ) → a < 2 ^ 64 → b < 2 ^ 64 → bit_and (bit_and a m) (bit_not w64 b) < 2 ^ 64 → ((i : ℕ) → i < 64 → bit_at a i ≡ 1 → bit_at m i ≡ 1 → bit_at b i ≡ 1) → bit_and (bit_and a m) (bit_not w64 b) ≡ 0
missing_none a m b fits_a fits small all = same_from_bits_below 64 _ 0 small (omega arith) (λ i inside. each i inside ∙ sym (bit_at-zero i))
  where
    each : (i : ℕ) → i < 64 → bit_at (bit_and (bit_and a m) (bit_not w64 b)) i ≡ 0
    each i inside =
        let parts = bit_at_and (bit_and a m) (bit_not w64 b) i in
        let both = bit_at_and a m i in
        let turned = bit_at_not w64 b i fits inside in
        elim (cases_lt (bit_at a i) 1) [
          | inl unset ↦ omega (arith, parts, both, unset)
          | inr one ↦ elim (cases_lt (bit_at m i) 1) [
            | inl unset ↦ omega (arith, parts, both, unset)
            | inr masked ↦ omega (arith, parts, both, turned, all i inside (omega (arith, one, bit_at-lt a i)) (omega (arith, masked, bit_at-lt m i)))
          ]
        ]

-- The bits of a word that are like one of them, and of a word in which several are set or cleared.

-- ones at the bits that differ from one
abbrev Differ : ℕ → ℕ → ℕ → Type 0
Differ others w k = (i : ℕ) → i < 64 → (bit_at others i ≡ 0) ↔ (bit_at w i ≡ bit_at w k)

-- ones up to a bit
abbrev UpTo : ℕ → ℕ → Type 0
UpTo mask k = (i : ℕ) → i < 64 → (bit_at mask i ≡ 1) ↔ (i < k + 1)

-- the bits that differ, by the one that they differ from
bit_of-set : (x : ℕ) → x < 2 → One ≡ bit_symbol x → x ≡ 1
bit_of-set zero small is = absurd cc
bit_of-set (suc zero) small is = refl
bit_of-set (suc (suc x)) small is = absurd (omega (arith, small))

pub differ_from-one : (w k : ℕ) → w < 2 ^ 64 → One ≡ bit_symbol (bit_at w k) → Differ (bit_not w64 w) w k
differ_from-one w k fits is i inside =
    let one = bit_of-set (bit_at w k) (bit_at-lt w k) is in
    let turned = bit_at_not w64 w i fits inside in
    (λ e. omega (arith, one, turned, bit_at-lt w i, e), λ e. omega (arith, one, turned, e))

-- a bit under the mask that isn't set in both isn't set
unmasked : (others mask k j : ℕ) → UpTo mask k → j < 64 → j ≤ k → bit_at (bit_and others mask) j ≡ 0 → bit_at others j ≡ 0
unmasked others mask k j up inside below none =
    let one = (up j inside).1 (omega (arith, below)) in
    omega (arith, bit_at_and others mask j, one, none, bit_at-lt others j)

-- towards the left: no bit differs
pub alike_left-all : (others mask w k : ℕ) → k < 64 → Differ others w k → UpTo mask k → bit_and others mask ≡ 0 → (i : ℕ) → i < k + 1 → bit_at w (k - i) ≡ bit_at w k
alike_left-all others mask w k within differ up none i less =
    let inside : k - i < 64 = omega (arith, within) in
    (differ (k - i) inside).0 (unmasked others mask k (k - i) up inside (omega arith) (ap (λ n. bit_at n (k - i)) none ∙ bit_at-zero (k - i)))

-- the highest bit that is set
highest_set : (n p : ℕ) → 2 ^ p ≤ n → n < 2 * 2 ^ p → bit_at n p ≡ 1
highest_set n p low high =
    let some = pow_pos p in
    let most : n / 2 ^ p < 2 = (div-lt_iff_lt-mul some).1 high in
    let least : 1 ≤ n / 2 ^ p = (le-div_iff_mul-le some).1 (omega arith) in
    omega arith

-- or some do, and p is the nearest of them
pub nearest_left : (others mask w k p : ℕ) → k < 64 → Differ others w k → UpTo mask k → 2 ^ p ≤ bit_and others mask → bit_and others mask < 2 * 2 ^ p → p < 64 → p < k
nearest_left others mask w k p within differ up low high small =
    let both : bit_at (bit_and others mask) p ≡ 1 = highest_set _ _ low high in
    let parts = bit_at_and others mask p in
    let masked : bit_at mask p ≡ 1 = omega (arith, both, parts, bit_at-lt mask p) in
    let other : bit_at others p ≡ 1 = omega (arith, both, parts, bit_at-lt others p) in
    let below : p < k + 1 = (up p small).0 masked in
    let itself : bit_at others k ≡ 0 = (differ k within).1 refl in
    elim (cases_lt p k) [ inl less ↦ less | inr most ↦ absurd (let same : p ≡ k = omega (arith, most, below) in let at : bit_at others p ≡ bit_at others k = ap (bit_at others) same in omega (arith, at, itself, other)) ]

pub alike_left : (others mask w k p : ℕ) → k < 64 → Differ others w k → UpTo mask k → bit_and others mask < 2 * 2 ^ p → (i : ℕ) → i < k - p → bit_at w (k - i) ≡ bit_at w k
alike_left others mask w k p within differ up high i less =
    let inside : k - i < 64 = omega (arith, within) in
    (differ (k - i) inside).0 (unmasked others mask k (k - i) up inside (omega arith) (bit_at_above _ (p + 1) (k - i) (omega (arith, high, pow-add 2 p 1)) (omega (arith, less))))

-- which isn't alike
pub unlike_left : (others mask w k p : ℕ) → k < 64 → Differ others w k → UpTo mask k → 2 ^ p ≤ bit_and others mask → bit_and others mask < 2 * 2 ^ p → p < k → bit_at w (k - (k - p)) ≢ bit_at w k
unlike_left others mask w k p within differ up low high near = λ same.
    let both : bit_at (bit_and others mask) p ≡ 1 = highest_set _ _ low high in
    let set : bit_at others p ≡ 1 = omega (arith, both, bit_at_and others mask p, bit_at-lt others p) in
    let inside : k - (k - p) < 64 = omega (arith, within) in
    let none : bit_at others (k - (k - p)) ≡ 0 = (differ (k - (k - p)) inside).1 same in
    let is : k - (k - p) ≡ p = omega (arith, near) in
    let at : bit_at others (k - (k - p)) ≡ bit_at others p = ap (bit_at others) is in
    omega (arith, at, none, set)

-- towards the right: no bit differs
pub alike_right-all : (others w k : ℕ) → k < 64 → Differ others w k → others / 2 ^ k ≡ 0 → (i : ℕ) → i < 64 - k → bit_at w (k + i) ≡ bit_at w k
alike_right-all others w k within differ none i less =
    (differ (k + i) (omega (arith, less))).0 (sym (shifted_down others k i) ∙ ap (λ n. bit_at n i) none ∙ bit_at-zero i)

-- or the nearest that does
abbrev pub nearest : ℕ → ℕ → ℕ
nearest others k = trailing_zeros w64 (others / 2 ^ k)

abbrev Found : ℕ → ℕ → Type 0
Found others k = (nearest others k < 64) × (bit_at (others / 2 ^ k) (nearest others k) ≡ 1) × ((i : ℕ) → i < nearest others k → bit_at (others / 2 ^ k) i ≡ 0)

pub nearest_right : (others w k : ℕ) → k < 64 → others < 2 ^ 64 → Differ others w k → others / 2 ^ k < 2 ^ 64 → 0 < others / 2 ^ k
    → (0 < nearest others k) × (k + nearest others k ≤ 64) × ((i : ℕ) → i < nearest others k → bit_at w (k + i) ≡ bit_at w k)
    × (bit_at w (k + nearest others k) ≢ bit_at w k)
nearest_right others w k within fits differ small some =
    let found = bit_at-trailing_zeros w64 (others / 2 ^ k) some small in
    let inside : (i : ℕ) → i < nearest others k → k + i < 64 = λ i less. elim (cases_lt (k + i) 64) [ inl lt ↦ lt | inr above ↦ absurd (beyond found i less above) ] in (
      elim (cases_lt 0 (nearest others k)) [ inl more ↦ more | inr here ↦ absurd (first found here) ],
      elim (cases_lt 64 (k + nearest others k)) [ inl above ↦ absurd (last found (omega (arith, above))) | inr le ↦ le ],
      λ i less. (differ (k + i) (inside i less)).0 (sym (shifted_down others k i) ∙ found.2 i less),
      λ same. elim (cases_lt (k + nearest others k) 64) [
        | inl lt ↦ (let none = (differ (k + nearest others k) lt).1 same in omega (arith, none, set found))
        | inr above ↦ last found above
      ],
    )
  where
    set : Found others k → bit_at others (k + nearest others k) ≡ 1
    set found = sym (shifted_down others k (nearest others k)) ∙ found.1

    last : Found others k → 64 ≤ k + nearest others k → ⊥
    last found above = omega (arith, set found, bit_at_above others 64 (k + nearest others k) fits above)

    beyond : Found others k → (i : ℕ) → i < nearest others k → 64 ≤ k + i → ⊥
    beyond found i less above = last found (omega (arith, less, above))

    first : Found others k → nearest others k ≤ 0 → ⊥
    first found here =
        let same : k + nearest others k ≡ k = omega (arith, here) in
        let at : bit_at others (k + nearest others k) ≡ bit_at others k = ap (bit_at others) same in
        omega (arith, at, set found, (differ k within).1 refl)

-- a word moved up, cut off above
pub moved_up : (u low j : ℕ) → low ≤ j → j < 64 → bit_at (u * 2 ^ low % 2 ^ 64) j ≡ bit_at u (j - low)
moved_up u low j le inside =
    let sum : u * 2 ^ low ≡ u * 2 ^ low + 0 = omega arith in
    bit_at_low _ j inside ∙ ap (λ n. bit_at n j) sum ∙ bit_at_cat_high u low 0 j (pow_pos low) le

pub moved_up-below : (u low j : ℕ) → j < low → j < 64 → bit_at (u * 2 ^ low % 2 ^ 64) j ≡ 0
moved_up-below u low j less inside =
    let sum : u * 2 ^ low ≡ u * 2 ^ low + 0 = omega arith in
    bit_at_low _ j inside ∙ ap (λ n. bit_at n j) sum ∙ bit_at_cat_low u low 0 j less ∙ bit_at-zero j

pub bit_inside : (d : Dir) (k n i : ℕ) → k < 64 → HasCells d k n → i < n → bit_ahead d k i < 64
bit_inside L k n i within room less = omega (arith, within, room, less)
bit_inside R k n i within room less = omega (arith, within, room, less)

-- the cells from a bit on towards a side are those from the lowest one on
on_way : (d : Dir) (k n low i : ℕ) → HasCells d k n → IsLowest d k n low → i < n → (low ≤ bit_ahead d k i) × (bit_ahead d k i < low + n)
on_way L k n low i room is less = (omega (arith, room, is, less), omega (arith, room, is, less))
on_way R k n low i room is less = (omega (arith, room, is, less), omega (arith, room, is, less))

off_way : (d : Dir) (k n low j : ℕ) → HasCells d k n → IsLowest d k n low → ((i : ℕ) → i < n → j ≢ bit_ahead d k i) → low ≤ j → j < low + n → ⊥
off_way L k n low j room is none from to = none (k - j) (omega (arith, is, from, to)) (omega (arith, is, from, to))
off_way R k n low j room is none from to = none (j - k) (omega (arith, is, from, to)) (omega (arith, is, from, to))

-- ones at n cells from the lowest one on
set_on : (u n low j : ℕ) → 0 < n → UpTo u (n - 1) → low ≤ j → j < low + n → j < 64 → bit_at (u * 2 ^ low % 2 ^ 64) j ≡ 1
set_on u n low j some up from to inside =
    moved_up u low j from inside ∙ (up (j - low) (omega (arith, inside))).1 (omega (arith, some, from, to))

set_off : (u n low j : ℕ) → 0 < n → UpTo u (n - 1) → (low ≤ j → j < low + n → ⊥) → j < 64 → bit_at (u * 2 ^ low % 2 ^ 64) j ≡ 0
set_off u n low j some up off inside =
    elim (cases_lt j low) [
      | inl below ↦ moved_up-below u low j below inside
      | inr from ↦ moved_up u low j from inside ∙ clear from
    ]
  where
    clear : low ≤ j → bit_at u (j - low) ≡ 0
    clear from =
        elim (cases_lt (bit_at u (j - low)) 1) [
          | inl none ↦ omega (arith, none)
          | inr one ↦ absurd (off from (omega (arith, some, from, (up (j - low) (omega (arith, inside))).0 (omega (arith, one, bit_at-lt u (j - low))))))
        ]

-- a word with those cells set, and cleared
pub ones_here : (d : Dir) (w u k n low : ℕ) → 0 < n → HasCells d k n → IsLowest d k n low → UpTo u (n - 1) → (i : ℕ) → i < n → bit_ahead d k i < 64 → bit_symbol (bit_at (bit_or w (u * 2 ^ low % 2 ^ 64)) (bit_ahead d k i)) ≡ One
ones_here d w u k n low some room is up i less inside =
    let at = on_way d k n low i room is less in
    let set = set_on u n low (bit_ahead d k i) some up at.0 at.1 inside in
    let one : bit_at (bit_or w (u * 2 ^ low % 2 ^ 64)) (bit_ahead d k i) ≡ 1 = omega (arith, bit_at_or w (u * 2 ^ low % 2 ^ 64) (bit_ahead d k i), set, bit_at-lt w (bit_ahead d k i)) in
    ap bit_symbol one

pub ones_others : (d : Dir) (w u k n low : ℕ) → 0 < n → HasCells d k n → IsLowest d k n low → UpTo u (n - 1) → (j : ℕ) → j < 64 → ((i : ℕ) → i < n → j ≢ bit_ahead d k i) → bit_at (bit_or w (u * 2 ^ low % 2 ^ 64)) j ≡ bit_at w j
ones_others d w u k n low some room is up j inside none =
    let clear = set_off u n low j some up (off_way d k n low j room is none) inside in
    omega (arith, bit_at_or w (u * 2 ^ low % 2 ^ 64) j, clear, bit_at-lt w j)

pub zeros_here : (d : Dir) (w u k n low : ℕ) → 0 < n → HasCells d k n → IsLowest d k n low → UpTo u (n - 1) → u * 2 ^ low % 2 ^ 64 < 2 ^ 64 → (i : ℕ) → i < n → bit_ahead d k i < 64 → bit_symbol (bit_at (bit_and w (bit_not w64 (u * 2 ^ low % 2 ^ 64))) (bit_ahead d k i)) ≡ Zero
zeros_here d w u k n low some room is up fits i less inside =
    let at = on_way d k n low i room is less in
    let set = set_on u n low (bit_ahead d k i) some up at.0 at.1 inside in
    let turned = bit_at_not w64 (u * 2 ^ low % 2 ^ 64) (bit_ahead d k i) fits inside in
    let none : bit_at (bit_and w (bit_not w64 (u * 2 ^ low % 2 ^ 64))) (bit_ahead d k i) ≡ 0 = omega (arith, bit_at_and w (bit_not w64 (u * 2 ^ low % 2 ^ 64)) (bit_ahead d k i), set, turned) in
    ap bit_symbol none

pub zeros_others : (d : Dir) (w u k n low : ℕ) → 0 < n → HasCells d k n → IsLowest d k n low → UpTo u (n - 1) → u * 2 ^ low % 2 ^ 64 < 2 ^ 64 → (j : ℕ) → j < 64 → ((i : ℕ) → i < n → j ≢ bit_ahead d k i) → bit_at (bit_and w (bit_not w64 (u * 2 ^ low % 2 ^ 64))) j ≡ bit_at w j
zeros_others d w u k n low some room is up fits j inside none =
    let clear = set_off u n low j some up (off_way d k n low j room is none) inside in
    let turned = bit_at_not w64 (u * 2 ^ low % 2 ^ 64) j fits inside in
    omega (arith, bit_at_and w (bit_not w64 (u * 2 ^ low % 2 ^ 64)) j, clear, turned, bit_at-lt w j)

-- a number that isn't 0
pub positive : (n : ℕ) → (n ≡ 0 → ⊥) → 0 < n
positive n some = omega (arith, some)
