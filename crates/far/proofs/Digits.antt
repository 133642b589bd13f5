-- Numbers are read from texts in hexadecimal and written so, digit by digit and text by text.
use Rattle.std.proofs.Common.{◌≡◌, ℕ, zero, suc, ◌+◌, ◌-◌, ◌*◌, ◌/◌, ◌%◌, ◌^◌, ◌<◌, ◌≤◌, ◌⊎◌, inl, inr, cond, List, [], ◌∷◌, ◌++◌, length, take, drop, get_or, map, set, refl, sym, ◌∙◌, ap, subst, arith}
use Rattle.std.specs.Int.Digits.{digits_of, number_from_digits, AllBelowBase}
use Rattle.std.proofs.lemmas.Bool.{cases_eq, ne_eqb}
use Rattle.std.proofs.lemmas.List.{take_more, take_all, get_or-map, length-map, map-append, take-append-drop, append_assoc, drop-set-lt, drop_all, get_or-set_same, length-set, take_more_set, length-drop}
use Rattle.std.proofs.Math.Seq.{drop-cons}
use Rattle.std.proofs.lemmas.Int.Digits.{digits_of_step, length-digits_of_step, length-digits_of-le, number_push, number_after_append, number_after_ge, all_below_base_digits_of, first_digits_of}
use Rattle.far.specs.Limits.{word_bits, pair_limit, move_limit, row_limit}
use Rattle.far.specs.Texts.{hex_glyph, hex_value, hex_text, hex_worth, IsDigit, IsHex, IsDelta, IsRows, delta_of, rows_of}
use Rattle.far.proofs.Written.{text_of_some, text_of_none, value_back, digit_back}
use Rattle.far.specs.inside.Reading.{IsWorth, IsWritten, AreMoves, AreEdges}
use Rattle.text.specs.Terms.{parts_of}

-- Numbers in hexadecimal, digit by digit.

-- one digit more
pub worth_more : (text : List ℕ) (i : ℕ) → i < length text → hex_worth (take (i + 1) text) ≡ 16 * hex_worth (take i text) + hex_value (get_or text i 0)
worth_more text i below =
    let more : hex_worth (take (i + 1) text) ≡ number_from_digits 16 (map hex_value (take i text) ++ hex_value (get_or text i 0) ∷ []) =
    ap hex_worth (take_more text i 0 below) ∙ ap (number_from_digits 16) (map-append hex_value (take i text) (get_or text i 0 ∷ [])) in
    let push = number_push 16 (map hex_value (take i text)) (hex_value (get_or text i 0)) in
    omega arith

-- more digits are worth at least as much
pub worth_so_far : (text : List ℕ) (i : ℕ) → hex_worth (take i text) ≤ hex_worth text
worth_so_far text i =
    let whole : hex_worth text ≡ number_from_digits 16 (map hex_value (take i text) ++ map hex_value (drop i text)) =
    ap hex_worth (sym (take-append-drop i text)) ∙ ap (number_from_digits 16) (map-append hex_value (take i text) (drop i text)) in
    let split = number_after_append 16 0 (map hex_value (take i text)) (map hex_value (drop i text)) in
    let grows = number_after_ge 16 (hex_worth (take i text)) (map hex_value (drop i text)) (omega arith) in
    omega arith

pub worth_first : (text : List ℕ) → IsWorth text 0 0
worth_first text = record { worth = refl; small = omega arith; some = λ none. absurd (omega arith); form = refl }

-- the first digit is no zero, so the number is none
positive : (text : List ℕ) (i number next : ℕ) → (get_or text 0 0 ≡ 48 → ⊥) → IsDigit 16 (get_or text i 0) → next ≡ 16 * number + hex_value (get_or text i 0) → (0 < i → 0 < number) → 0 < next
positive text i number next no_zero digit next_is some = elim (cases_eq next 0) [
  | inr other ↦ omega (arith, other)
  | inl none ↦ elim (cases_eq i 0) [
    | inr later ↦ let before = some (omega (arith, later)) in absurd (omega (arith, before, next_is, none))
    | inl here ↦
        let value : hex_value (get_or text i 0) ≡ 0 = omega (arith, next_is, none) in
        let zero_digit : 48 ≡ get_or text i 0 = ap hex_glyph (sym value) ∙ digit.form in
        absurd (no_zero (ap (λ k. get_or text k 0) (sym here) ∙ sym zero_digit))
  ]
]

-- one digit more is read
pub worth_next : (text : List ℕ) (i number digit next : ℕ) → i < length text → (get_or text 0 0 ≡ 48 → ⊥) → digit ≡ hex_value (get_or text i 0) → IsDigit 16 (get_or text i 0) → next ≡ 16 * number + digit
    → next < 2 ^ (pair_limit + 1) → IsWorth text i number → IsWorth text (i + 1) next
worth_next text i number digit next below no_zero digit_is is_digit next_is small w =
    let byte = get_or text i 0 in
    let value_small = is_digit.small in
    let next_by : next ≡ 16 * number + hex_value byte = omega (arith, next_is, digit_is) in
    let some : 0 < next = positive text i number next no_zero is_digit next_by w.some in
    let front : next / 16 ≡ number = omega (arith, next_by, value_small) in
    let last : next % 16 ≡ hex_value byte = omega (arith, next_by, value_small) in
    record {
      worth = omega (arith, next_by, worth_more text i below, w.worth);
      small = small;
      some = λ _. some;
      form = ap (map hex_glyph) (digits_of_step 16 next (omega arith) some) ∙ map-append hex_glyph (digits_of 16 (next / 16)) (next % 16 ∷ [])
          ∙ ap (λ n. map hex_glyph (digits_of 16 n) ++ hex_glyph (next % 16) ∷ []) front
          ∙ ap (λ d. map hex_glyph (digits_of 16 number) ++ hex_glyph d ∷ []) last
          ∙ ap (λ xs. xs ++ hex_glyph (hex_value byte) ∷ []) w.form ∙ ap (λ b. take i text ++ b ∷ []) is_digit.form ∙ sym (take_more text i 0 below);
    }

-- all are read
pub worth_all : (text : List ℕ) (number limit : ℕ) → 0 < length text → number < limit → IsWorth text (length text) number → (number ≡ hex_worth text) × IsHex limit text
worth_all text number limit some small w =
    let all : take (length text) text ≡ text = take_all (length text) text (omega arith) in
    let same : number ≡ hex_worth text = w.worth ∙ ap hex_worth all in
    let above = w.some some in (
      same,
      record { form = ap hex_text (sym same) ∙ text_of_some number (λ none. omega (arith, above, none)) ∙ w.form ∙ all; small = subst (λ n. n < limit) same small },
    )

-- each byte of a number's form is a digit
below_at : (ds : List ℕ) (i : ℕ) → AllBelowBase 16 ds → get_or ds i 0 < 16
below_at [] i all = omega arith
below_at (d ∷ ds) zero all = all.0
below_at (d ∷ ds) (suc i) all = below_at ds i all.1

glyph_there : (ds : List ℕ) (i : ℕ) → i < length ds → AllBelowBase 16 ds → IsDigit 16 (get_or (map hex_glyph ds) i 0)
glyph_there ds i less all = subst (IsDigit 16) (sym (get_or-map hex_glyph ds i 0 0 less)) (digit_back 16 (get_or ds i 0) (below_at ds i all))

zero_digit : IsDigit 16 48
zero_digit = record { form = refl; small = omega arith }

digit_in : (text : List ℕ) (i : ℕ) → i < length text → text ≡ 48 ∷ [] → IsDigit 16 (get_or text i 0)
digit_in text i less is =
    let first : i ≡ 0 = omega (arith, less, ap length is) in
    subst (IsDigit 16) (sym (ap (λ t. get_or t i 0) is ∙ ap (λ k. get_or (48 ∷ []) k 0) first)) zero_digit

pub hex_digits : (limit : ℕ) (text : List ℕ) (i : ℕ) → i < length text → IsHex limit text → IsDigit 16 (get_or text i 0)
hex_digits limit text i less h = elim (cases_eq (hex_worth text) 0) [
  | inl none ↦ digit_in text i less (sym h.form ∙ ap hex_text none ∙ text_of_none)
  | inr some ↦
      let is : text ≡ map hex_glyph (digits_of 16 (hex_worth text)) = sym h.form ∙ text_of_some (hex_worth text) some in
      let within : i < length (digits_of 16 (hex_worth text)) = omega (arith, less, ap length is, length-map (digits_of 16 (hex_worth text)) hex_glyph) in
      subst (λ t. IsDigit 16 (get_or t i 0)) (sym is) (glyph_there (digits_of 16 (hex_worth text)) i within (all_below_base_digits_of 16 (hex_worth text) (omega arith)))
]

-- a number's form isn't empty, and begins with a zero only where it is 0
glyph_of_some : (d : ℕ) → 0 < d → hex_glyph d ≡ 48 → ⊥
glyph_of_some d some is = let back : hex_value (hex_glyph d) ≡ d = value_back d in let none : hex_value (hex_glyph d) ≡ 0 = ap hex_value is in omega (arith, back, none, some)

first_there : (ds : List ℕ) → 0 < get_or ds 0 0 → get_or (map hex_glyph ds) 0 0 ≡ 48 → ⊥
first_there [] some is = absurd (omega arith)
first_there (d ∷ ds) some is = glyph_of_some d some is

pub zero_alone : (limit : ℕ) (text : List ℕ) → get_or text 0 0 ≡ 48 → IsHex limit text → text ≡ 48 ∷ []
zero_alone limit text first_is h = elim (cases_eq (hex_worth text) 0) [
  | inl none ↦ sym h.form ∙ ap hex_text none ∙ text_of_none
  | inr some ↦
      let is : text ≡ map hex_glyph (digits_of 16 (hex_worth text)) = sym h.form ∙ text_of_some (hex_worth text) some in
      absurd (first_there (digits_of 16 (hex_worth text)) (first_digits_of 16 (hex_worth text) (omega arith) (omega (arith, some))) (ap (λ t. get_or t 0 0) (sym is) ∙ first_is))
]

pub not_empty : (limit : ℕ) (text : List ℕ) → length text ≡ 0 → IsHex limit text → ⊥
not_empty limit [] none h = omega (arith, ap length h.form, ap length text_of_none)
not_empty limit (b ∷ bs) none h = omega (arith, none)

pub zero_is_hex : (limit : ℕ) (text : List ℕ) → text ≡ 48 ∷ [] → 0 < limit → (0 ≡ hex_worth text) × IsHex limit text
zero_is_hex limit text is some =
    let worth : hex_worth text ≡ 0 = ap hex_worth is in
    (sym worth, record { form = ap hex_text worth ∙ text_of_none ∙ sym is; small = subst (λ n. n < limit) (sym worth) some })

one_byte : (text : List ℕ) → length text ≡ 1 → get_or text 0 0 ≡ 48 → text ≡ 48 ∷ []
one_byte [] size first_is = absurd (omega arith)
one_byte (b ∷ []) size first_is = ap (λ x. x ∷ []) first_is
one_byte (b ∷ c ∷ bs) size first_is = absurd (omega arith)

pub zero_read : (limit : ℕ) (text : List ℕ) → 0 < length text → length text ≤ 1 → get_or text 0 0 ≡ 48 → 0 < limit → (0 ≡ hex_worth text) × IsHex limit text
zero_read limit text some few first_is above = zero_is_hex limit text (one_byte text (omega arith) first_is) above

pub zero_refused : (limit : ℕ) (text : List ℕ) → get_or text 0 0 ≡ 48 → (1 < length text) ⊎ (limit ≡ 0) → IsHex limit text → ⊥
zero_refused limit text first_is (inl more) h = omega (arith, more, ap length (zero_alone limit text first_is h))
zero_refused limit text first_is (inr none) h = let small = h.small in omega (arith, small, none)

-- nothing is written yet
pub written_first : (number : ℕ) (buf : List ℕ) → number < 2 ^ word_bits → length buf ≡ word_bits / 4 → IsWritten number number (word_bits / 4) buf
written_first number buf small size = record {
  room = length-digits_of-le 16 (word_bits / 4) number (omega arith) (omega arith);
  end = omega arith;
  size = size;
  digits = ap (λ xs. map hex_glyph (digits_of 16 number) ++ xs) (drop_all (word_bits / 4) buf (omega arith)) ∙ append-nil (map hex_glyph (digits_of 16 number));
}
  where
    append-nil : (xs : List ℕ) → xs ++ [] ≡ xs
    append-nil [] = refl
    append-nil (x ∷ xs) = ap (λ ys. x ∷ ys) (append-nil xs)

-- one digit more is
pub room_left : (number rest at : ℕ) (buf : List ℕ) → 0 < rest → IsWritten number rest at buf → 1 ≤ at
room_left number rest at buf some w = let step = length-digits_of_step 16 rest (omega arith) some in let room = w.room in omega arith

pub written_more : (number rest at : ℕ) (buf : List ℕ) → 0 < rest → IsWritten number rest at buf → IsWritten number (rest / 16) (at - 1) (set buf (at - 1) (hex_glyph (rest % 16)))
written_more number rest at buf some w =
    let g = hex_glyph (rest % 16) in
    let left = room_left number rest at buf some w in
    let front : List ℕ = map hex_glyph (digits_of 16 (rest / 16)) in
    let room = w.room in
    let end = w.end in
    let size = w.size in
    let step : map hex_glyph (digits_of 16 rest) ≡ front ++ g ∷ [] =
    ap (map hex_glyph) (digits_of_step 16 rest (omega arith) some) ∙ map-append hex_glyph (digits_of 16 (rest / 16)) (rest % 16 ∷ []) in
    let back : drop (at - 1) (set buf (at - 1) g) ≡ g ∷ drop at buf =
    drop-cons (set buf (at - 1) g) (at - 1) 0 (let n = length-set buf (at - 1) g in omega arith)
    ∙ ap (λ x. x ∷ drop (suc (at - 1)) (set buf (at - 1) g)) (get_or-set_same buf (at - 1) g 0 (omega arith))
    ∙ ap (λ xs. g ∷ xs) (drop-set-lt (suc (at - 1)) buf (at - 1) g (omega arith))
    ∙ ap (λ i. g ∷ drop i buf) (let e : suc (at - 1) ≡ at = omega arith in e) in
    record {
      room = let fewer = length-digits_of_step 16 rest (omega arith) some in omega arith;
      end = omega arith;
      size = length-set buf (at - 1) g ∙ w.size;
      digits = ap (λ xs. front ++ xs) back ∙ sym (append_assoc front (g ∷ []) (drop at buf)) ∙ ap (λ xs. xs ++ drop at buf) (sym step) ∙ w.digits;
    }

-- all of them are
pub written_all : (number at : ℕ) (buf : List ℕ) → 0 < number → IsWritten number 0 at buf → drop at buf ≡ hex_text number
unfolding hex_text
written_all number at buf some w =
    w.digits ∙ ap (λ b. cond b (48 ∷ []) (map hex_glyph (digits_of 16 number))) (sym (ne_eqb number 0 (λ none. omega arith)))

-- Texts that are read number by number.

-- all of them
pub moves_all : (size : ℕ) (text : List ℕ) (delta : List ℕ) → length text ≡ 2 * size → AreMoves size text (2 * size) delta → (take (2 * size) delta ≡ delta_of text) × IsDelta size text × (length delta ≡ move_limit)
moves_all size text delta long m = (m.same ∙ ap delta_of (take_all (2 * size) text (omega arith)), record { count = long; each = m.each }, m.length_is)

-- what is left of a list begins with its next element
next_part : (parts : List (List ℕ)) (part : List ℕ) (rest : List (List ℕ)) (k : ℕ) → part ∷ rest ≡ drop k parts → (k < length parts) × (part ≡ get_or parts k []) × (rest ≡ drop (k + 1) parts)
next_part [] part rest zero is = absurd (cc)
next_part [] part rest (suc k) is = absurd (cc)
next_part (p ∷ ps) part rest zero is = (omega arith, (cc), (cc))
next_part (p ∷ ps) part rest (suc k) is = let (less, same, rest_is) = next_part ps part rest k is in (omega arith, same, rest_is ∙ ap (λ i. drop i (p ∷ ps)) (let e : suc (k + 1) ≡ suc k + 1 = omega arith in e))

-- one row more
pub edges_more : (limit : ℕ) (text : List ℕ) (k : ℕ) (left rest : List (List ℕ)) (rows part : List ℕ) (number : ℕ) → k < row_limit → left ≡ part ∷ rest → number ≡ hex_worth part → IsHex limit part → AreEdges limit text k left rows
    → AreEdges limit text (k + 1) rest (set rows k number)
edges_more limit text k left rest rows part number room is worth hex e =
    let (less, same, rest_is) = next_part (parts_of 44 text) part rest k (sym is ∙ e.left_is) in
    let long = e.length_is in
    record {
      left_is = rest_is;
      there = omega arith;
      length_is = length-set rows k number ∙ e.length_is;
      same = take_more_set rows k number (omega arith) ∙ ap (λ xs. xs ++ number ∷ []) e.same
          ∙ ap (λ n. map hex_worth (take k (parts_of 44 text)) ++ n ∷ []) (worth ∙ ap hex_worth same)
          ∙ sym (map-append hex_worth (take k (parts_of 44 text)) (get_or (parts_of 44 text) k [] ∷ [])) ∙ ap (map hex_worth) (sym (take_more (parts_of 44 text) k [] less));
      each = λ i below. elim (cases_eq i k) [
        | inl same_place ↦ subst (λ n. IsHex limit (get_or (parts_of 44 text) n [])) (sym same_place) (subst (IsHex limit) same hex)
        | inr other ↦ e.each i (omega arith)
      ];
    }

-- and all of them, where nothing is left
pub edges_all : (limit : ℕ) (text : List ℕ) (count : ℕ) (left : List (List ℕ)) (rows : List ℕ) → left ≡ [] → AreEdges limit text count left rows → (take count rows ≡ rows_of text) × IsRows count limit text × (length rows ≡ row_limit)
edges_all limit text count left rows none e =
    let rest : length (drop count (parts_of 44 text)) ≡ 0 = ap length (sym e.left_is) ∙ ap length none in
    let size = length-drop count (parts_of 44 text) in
    let there = e.there in
    let all : length (parts_of 44 text) ≡ count = omega arith in
    (e.same ∙ ap (map hex_worth) (take_all count (parts_of 44 text) (omega arith)), record { count_is = all; each = e.each }, e.length_is)

-- where the parts end too soon, or one isn't a number, or some are left, they aren't rows
pub no_number : (limit : ℕ) (text : List ℕ) (count k : ℕ) (left rest : List (List ℕ)) (rows part : List ℕ) → k < count → left ≡ part ∷ rest → (IsHex limit part → ⊥) → AreEdges limit text k left rows → IsRows count limit text → ⊥
no_number limit text count k left rest rows part less is not_hex e r =
    let (within, same, rest_is) = next_part (parts_of 44 text) part rest k (sym is ∙ e.left_is) in
    not_hex (subst (IsHex limit) (sym same) (r.each k less))
