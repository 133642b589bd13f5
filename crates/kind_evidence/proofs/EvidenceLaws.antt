-- What evidence is written as: letters, sides and fields with room; and a test of each number.
use Rattle.std.proofs.Common.{ℕ, ◌≤◌, [], ◌∷◌, refl, List, length, arith, ◌≡◌, Some, ◌<◌, Bool}
use Rattle.std.proofs.lemmas.List.Elements.{All-cons, All-nil}
use Rattle.std.specs.Prelude.{All, Decides}
use Rattle.std.proofs.lemmas.Bool.Decides.{Decides-below_and}
use Rattle.kind_evidence.specs.Verdict.{IsLetter, room_for_fields, side_of, side_text, each_below}
use Rattle.machine_text.specs.Terms.{state_limit}
use Rattle.text.specs.Terms.{AreFields, spaced}
use Rattle.machine_text.specs.declared.table.Dir.{Dir}
use Rattle.machine_text.specs.declared.table.Dir.TheVariants.{L, R}

-- A byte above the space is a letter.
pub is_letter : (byte : ℕ) → 33 ≤ byte → IsLetter (byte ∷ [])
is_letter byte high = record { field = All-cons (λ b. 33 ≤ b) byte [] high (All-nil (λ b. 33 ≤ b)); one = refl }

-- Fields that aren't too long have room beside any table.
pub have_room : (fields : List (List ℕ)) (n : ℕ) → n ≤ state_limit → AreFields fields → length (spaced fields) ≤ room_for_fields n
have_room fields n few are = let short = are.short in omega (arith, few, short)

-- The text of a side reads back, and is one byte.
pub side_back : (side : Dir) → side_of (side_text side) ≡ Some side
side_back L = refl
side_back R = refl

pub length_of_side : (side : Dir) → length (side_text side) ≡ 1
length_of_side L = refl
length_of_side R = refl

-- each byte of it is above the space
pub side_is_high : (side : Dir) → All (λ byte. 33 ≤ byte) (side_text side)
side_is_high L = All-cons (λ byte. 33 ≤ byte) 76 [] (omega arith) (All-nil (λ byte. 33 ≤ byte))
side_is_high R = All-cons (λ byte. 33 ≤ byte) 82 [] (omega arith) (All-nil (λ byte. 33 ≤ byte))

-- A test of each number below one answers as it is.
pub below_decides : (p : ℕ → Bool) (P : ℕ → Type 0) → ((k : ℕ) → Decides (p k) (P k)) → (n : ℕ) → Decides (each_below p n) ((k : ℕ) → k < n → P k)
unfolding each_below
below_decides p P each n = Decides-below_and p P (each_below p) each refl (λ _. refl) n
