-- Numbers in decimal, and fields that are written, are read again.
use Rattle.std.proofs.Common.{◌≡◌, ℕ, zero, suc, ◌+◌, ◌-◌, ◌*◌, ◌<◌, ◌≤◌, List, [], ◌∷◌, length, take, get_or, arith, ◌≢◌, ◌%◌, ◌^◌, true, false, eqb, ltb, Some, refl, ◌∙◌, Bool, ◌++◌, ap, append-nil, length-append}
use Rattle.std.specs.List.{fold}
use Rattle.std.proofs.lemmas.List.Sums.{fold_more, fold-append}
use Rattle.std.specs.Prelude.{decimal, All}
use Rattle.std.specs.Str.{bytes_eq}
use Rattle.std.proofs.lemmas.Bool.Decides.{nat_tests}
use Rattle.std.proofs.lemmas.Fmt.{decimal_by_steps, length-decimal-le}
use Rattle.std.proofs.lemmas.List.Elements.{All-append, All-cons, All-nil, All-get_or, All-from_get_or, All-head, All-tail}
use Rattle.std.proofs.lemmas.Slice.Eq.{bytes_eq-Decides}
use Rattle.std.proofs.lemmas.List.Splits.{slice_split_at, slice_split_none}
use Rattle.text.specs.Fields.{worth_of, decimal_value, parts_of, IsField, spaced}

-- What a row of digits is worth.
abbrev pub with_digit : ℕ → ℕ → ℕ
with_digit n b = 10 * n + (b - 48)

-- more digits are worth at least as much
worth_from : (digits : List ℕ) (a : ℕ) → a ≤ fold with_digit a digits
worth_from [] a = omega arith
worth_from (b ∷ digits) a = omega (arith, worth_from digits (with_digit a b))

grows : (digits : List ℕ) (i a : ℕ) → fold with_digit a (take i digits) ≤ fold with_digit a digits
grows [] zero a = omega arith
grows [] (suc i) a = omega arith
grows (b ∷ digits) zero a = worth_from (b ∷ digits) a
grows (b ∷ digits) (suc i) a = grows digits i (with_digit a b)

pub worth_more : (digits : List ℕ) (i : ℕ) → i < length digits → worth_of (take (i + 1) digits) ≡ with_digit (worth_of (take i digits)) (get_or digits i 0)
worth_more digits i below = fold_more with_digit 0 digits i 0 below

pub worth_so_far : (digits : List ℕ) (i : ℕ) → worth_of (take i digits) ≤ worth_of digits
worth_so_far digits i = grows digits i 0

-- The decimal form of a number reads back as the number, and has no byte below `0`.
pub record IsForm (n : ℕ) (text : List ℕ) : Type 0 where
  pub worth : worth_of text ≡ n
  pub digits : All (λ b. 48 ≤ b) text

one_digit : (n : ℕ) → All (λ b. 48 ≤ b) ((48 + n) ∷ [])
one_digit n = All-cons (λ b. 48 ≤ b) (48 + n) [] (omega arith) (All-nil (λ b. 48 ≤ b))

pub decimal_is_form : (n : ℕ) → n < 2 ^ 64 → IsForm n (decimal n)
decimal_is_form = decimal_by_steps IsForm
    (λ n small. record { worth = omega arith; digits = one_digit n })
    (λ n digits large form. record {
      worth = fold-append with_digit 0 digits ((48 + n % 10) ∷ []) ∙ (let e : 10 * worth_of digits + (48 + n % 10 - 48) ≡ n = omega (arith, form.worth) in e);
      digits = All-append (λ b. 48 ≤ b) digits ((48 + n % 10) ∷ []) form.digits (one_digit (n % 10));
    })

pub decimal_value-decimal : (n : ℕ) → n < 2 ^ 64 → decimal_value (decimal n) ≡ Some n
unfolding decimal_value
decimal_value-decimal n small =
    let worth = (decimal_is_form n small).worth in
    let within : ltb n (2 ^ 64) ≡ true = grind (arith, nat_tests) in
    let same : bytes_eq (decimal n) (decimal n) ≡ true = (bytes_eq-Decides (decimal n) (decimal n)).1 refl in
    rw (worth, within, same) refl

-- no byte below `0` stands in it, so no space and no newline
pub decimal_without : (byte n : ℕ) → byte < 48 → n < 2 ^ 64 → All (λ b. eqb b byte ≡ false) (decimal n)
decimal_without byte n below small = All-from_get_or (λ b. eqb b byte ≡ false) (decimal n) 0 (λ i within.
    let above : 48 ≤ get_or (decimal n) i 0 = All-get_or (λ b. 48 ≤ b) (decimal n) i 0 within (decimal_is_form n small).digits in
    grind (arith, nat_tests))

pub decimal_line : (n : ℕ) → n < 2 ^ 64 → All (λ b. b ≢ 10) (decimal n)
decimal_line n small = All-from_get_or (λ b. b ≢ 10) (decimal n) 0 (λ i within.
    let above : 48 ≤ get_or (decimal n) i 0 = All-get_or (λ b. 48 ≤ b) (decimal n) i 0 within (decimal_is_form n small).digits in
    omega arith)

pub length_of_number : (n : ℕ) → n < 2 ^ 64 → length (decimal n) ≤ 20
length_of_number n small = length-decimal-le 20 n (omega arith) (omega arith) small

-- Fields that are written are read again, and are on one line.
abbrev IsSpace : ℕ → Bool
IsSpace b = eqb b 32

-- a field has no space and no newline
no_space : (text : List ℕ) → IsField text → All (λ b. IsSpace b ≡ false) text
no_space text field = All-from_get_or (λ b. IsSpace b ≡ false) text 0 (λ i below.
    let above : 33 ≤ get_or text i 0 = All-get_or (λ b. 33 ≤ b) text i 0 below field in
    grind (arith, nat_tests))

pub field_line : (text : List ℕ) → IsField text → All (λ b. b ≢ 10) text
field_line text field = All-from_get_or (λ b. b ≢ 10) text 0 (λ i below.
    let above : 33 ≤ get_or text i 0 = All-get_or (λ b. 33 ≤ b) text i 0 below field in
    omega arith)

pub parts_of-spaced : (kind : List ℕ) (fields : List (List ℕ)) → IsField kind → All IsField fields → parts_of 32 (kind ++ spaced fields) ≡ kind ∷ fields
parts_of-spaced kind [] is none =
    ap (parts_of 32) (append-nil kind) ∙ slice_split_none IsSpace kind (no_space kind is)
parts_of-spaced kind (field ∷ fields) is each =
    slice_split_at IsSpace kind 32 (field ++ spaced fields) (no_space kind is) refl
    ∙ ap (λ ps. kind ∷ ps) (parts_of-spaced field fields (All-head IsField field fields each) (All-tail IsField field fields each))

pub spaced_line : (fields : List (List ℕ)) → All IsField fields → All (λ b. b ≢ 10) (spaced fields)
spaced_line [] none = All-nil (λ b. b ≢ 10)
spaced_line (field ∷ fields) each =
    All-cons (λ b. b ≢ 10) 32 (field ++ spaced fields) (omega arith)
    (All-append (λ b. b ≢ 10) field (spaced fields) (field_line field (All-head IsField field fields each)) (spaced_line fields (All-tail IsField field fields each)))

pub number_is_field : (n : ℕ) → n < 2 ^ 64 → IsField (decimal n)
number_is_field n small = All-from_get_or (λ b. 33 ≤ b) (decimal n) 0 (λ i below.
    let above : 48 ≤ get_or (decimal n) i 0 = All-get_or (λ b. 48 ≤ b) (decimal n) i 0 below (decimal_is_form n small).digits in
    omega arith)

-- fields, one behind another
pub and_field : (field : List ℕ) (fields : List (List ℕ)) → IsField field → All IsField fields → All IsField (field ∷ fields)
and_field field fields = All-cons IsField field fields

pub no_fields : All IsField []
no_fields = All-nil IsField

pub length-spaced : (field : List ℕ) (fields : List (List ℕ)) → length (spaced (field ∷ fields)) ≡ 1 + (length field + length (spaced fields))
length-spaced field fields = let e = length-append field (spaced fields) in omega (arith, e)
