-- A text is cut at the first byte of a kind, such as a newline.
use Rattle.std.proofs.Common.{◌≡◌, ℕ, suc, ◌+◌, ◌-◌, ◌<◌, ◌≤◌, Bool, true, false, cond, eqb, ltb, not, List, [], ◌∷◌, ◌++◌, length, take, drop, Option, Some, None, refl, sym, ap, ◌∙◌, eq-eqb, length-drop, arith, ◌≢◌, ◌⊎◌, inl, inr, subst, length-append}
use Rattle.std.specs.Prelude.{option_map, position, All, IfSome, IfNone}
use Rattle.std.specs.List.{position_or_len, slice_split, onto_first}
use Rattle.std.proofs.lemmas.Bool.Decides.{nat_tests}
use Rattle.std.proofs.lemmas.List.{take_all, get_or_at}
use Rattle.std.proofs.lemmas.List.Elements.{All-head, All-tail, All-cons, All-nil}
use Rattle.std.specs.Borrow.{Bor}
use Rattle.text.specs.Fields.{cut_at, HasNoNewline, BeginsWithLine}

-- A text is cut at the first byte of a kind.
abbrev pub Cut : Type 0
Cut = Option (List ℕ × List ℕ)

abbrev pub longer : ℕ → Cut → Cut
longer b cut = option_map (λ cut. (b ∷ cut.0, cut.1)) cut

-- all of what stands behind a place
behind : (xs : List ℕ) (at : ℕ) → take (length xs - (at + 1)) (drop (at + 1) xs) ≡ drop (at + 1) xs
behind xs at = take_all _ _ (omega (arith, length-drop (at + 1) xs))

module _ (byte : ℕ) where
  abbrev pub is_byte : ℕ → Bool
  is_byte b = eqb b byte

  -- at the first place, where there is one
  at_place : (xs : List ℕ) → position_or_len is_byte xs < length xs → cut_at byte xs ≡ Some (take (position_or_len is_byte xs) xs, drop (position_or_len is_byte xs + 1) xs)
  at_place [] below = absurd (omega arith)
  at_place (x ∷ xs) below =
      elim (is_byte x) as (λ v. cond (not v) (1 + position_or_len is_byte xs) 0 < suc (length xs)
      → cond v (Some ([], xs)) (longer x (cut_at byte xs)) ≡ Some (take (cond (not v) (1 + position_or_len is_byte xs) 0) (x ∷ xs), drop (cond (not v) (1 + position_or_len is_byte xs) 0 + 1) (x ∷ xs))) [
        | true ↦ λ below. refl
        | false ↦ λ below.
            let one : suc (position_or_len is_byte xs) ≡ 1 + position_or_len is_byte xs = omega arith in
            let two : suc (position_or_len is_byte xs + 1) ≡ 1 + position_or_len is_byte xs + 1 = omega arith in
            ap (longer x) (at_place xs (omega arith))
            ∙ ap (λ i. Some (take i (x ∷ xs), drop (position_or_len is_byte xs + 1) xs)) one
            ∙ ap (λ i. Some (take (1 + position_or_len is_byte xs) (x ∷ xs), drop i (x ∷ xs))) two
      ] below

  at_end : (xs : List ℕ) → length xs ≤ position_or_len is_byte xs → cut_at byte xs ≡ None
  at_end [] past = refl
  at_end (x ∷ xs) past =
      elim (is_byte x) as (λ v. suc (length xs) ≤ cond (not v) (1 + position_or_len is_byte xs) 0 → cond v (Some ([], xs)) (longer x (cut_at byte xs)) ≡ None) [
        | true ↦ λ past. absurd (omega arith)
        | false ↦ λ past. ap (longer x) (at_end xs (omega arith))
      ] past

  pub cut_found : (xs : List ℕ) (at : ℕ) → position is_byte xs ≡ Some at → Some (take at xs, take (length xs - (at + 1)) (drop (at + 1) xs)) ≡ cut_at byte xs
  cut_found xs at found =
      elim (ltb (position_or_len is_byte xs) (length xs)) as (λ b. ltb (position_or_len is_byte xs) (length xs) ≡ b → cond b (Some (position_or_len is_byte xs)) None ≡ Some at → Some (take at xs, take (length xs - (at + 1)) (drop (at + 1) xs)) ≡ cut_at byte xs) [
        | true ↦ λ is found.
            let here : position_or_len is_byte xs ≡ at = cc in
            let within : position_or_len is_byte xs < length xs = grind (arith, nat_tests) in
            sym (at_place xs within ∙ ap (λ i. Some (take i xs, drop (i + 1) xs)) here ∙ ap (λ r. Some (take at xs, r)) (sym (behind xs at)))
        | false ↦ λ is found. cc
      ] refl found

  pub cut_missing : (xs : List ℕ) → position is_byte xs ≡ None → cut_at byte xs ≡ None
  cut_missing xs missing = elim (ltb (position_or_len is_byte xs) (length xs)) as (λ b. ltb (position_or_len is_byte xs) (length xs) ≡ b → cond b (Some (position_or_len is_byte xs)) None ≡ None → cut_at byte xs ≡ None) [
    | true ↦ λ is missing. cc
    | false ↦ λ is missing. at_end xs (grind (arith, nat_tests))
  ] refl missing

  -- what has no such byte is what stands before the first
  pub cut-append : (word text : List ℕ) → All (λ b. is_byte b ≡ false) word → cut_at byte (word ++ byte ∷ text) ≡ Some (word, text)
  cut-append [] text none = ap (λ v. cond v (Some ([], text)) (longer byte (cut_at byte text))) (eq-eqb byte byte refl)
  cut-append (b ∷ word) text none =
      ap (λ v. cond v (Some ([], word ++ byte ∷ text)) (longer b (cut_at byte (word ++ byte ∷ text)))) (All-head (λ b. is_byte b ≡ false) b word none)
      ∙ ap (longer b) (cut-append word text (All-tail (λ b. is_byte b ≡ false) b word none))

  -- the parts between such bytes, by the first of them
  abbrev parts_by : List ℕ → Cut → List (List ℕ)
  parts_by xs None = xs ∷ []
  parts_by xs (Some cut) = cut.0 ∷ slice_split is_byte cut.1

  onto_parts : (x : ℕ) (xs : List ℕ) (cut : Cut) → onto_first x (parts_by xs cut) ≡ parts_by (x ∷ xs) (longer x cut)
  onto_parts x xs None = refl
  onto_parts x xs (Some cut) = refl

  split_by_cut : (xs : List ℕ) → slice_split is_byte xs ≡ parts_by xs (cut_at byte xs)
  split_by_cut [] = refl
  split_by_cut (x ∷ xs) =
      elim (is_byte x) as (λ v. cond v ([] ∷ slice_split is_byte xs) (onto_first x (slice_split is_byte xs)) ≡ parts_by (x ∷ xs) (cond v (Some ([], xs)) (longer x (cut_at byte xs)))) [
        | true ↦ refl
        | false ↦ ap (onto_first x) (split_by_cut xs) ∙ onto_parts x xs (cut_at byte xs)
      ]

  pub split_at_cut : (xs before behind : List ℕ) → Some (before, behind) ≡ cut_at byte xs → slice_split is_byte xs ≡ before ∷ slice_split is_byte behind
  split_at_cut xs before behind cut = split_by_cut xs ∙ ap (parts_by xs) (sym cut)

  pub split_nowhere : (xs : List ℕ) → None ≡ cut_at byte xs → slice_split is_byte xs ≡ xs ∷ []
  split_nowhere xs cut = split_by_cut xs ∙ ap (parts_by xs) (sym cut)

-- A text that is cut at its first newline.
abbrev pub is_newline : ℕ → Bool
is_newline byte = eqb byte 10

is_other : (byte : ℕ) → is_newline byte ≡ false → byte ≢ 10
is_other byte e = grind (arith, nat_tests)

is_10 : (byte : ℕ) → is_newline byte ≡ true → byte ≡ 10
is_10 byte e = grind (arith, nat_tests)

-- a text cut at the byte 10: it has no newline, or begins with a line
abbrev IsCutAs : List ℕ → Cut → Type 0
IsCutAs text None = HasNoNewline text
IsCutAs text (Some cut) = BeginsWithLine text cut.0 cut.1

one_more : (b : ℕ) (text : List ℕ) (cut : Cut) → b ≢ 10 → IsCutAs text cut → IsCutAs (b ∷ text) (longer b cut)
one_more b text None other none = All-cons (λ byte. byte ≢ 10) b text other none
one_more b text (Some cut) other begins = record {
  is = ap (λ l. b ∷ l) begins.is;
  one_line = All-cons (λ byte. byte ≢ 10) b cut.0 other begins.one_line;
}

cut_as : (text : List ℕ) → IsCutAs text (cut_at 10 text)
cut_as [] = All-nil (λ byte. byte ≢ 10)
cut_as (b ∷ text) =
    elim (is_newline b) as (λ v. is_newline b ≡ v → IsCutAs (b ∷ text) (cond v (Some ([], text)) (longer b (cut_at 10 text)))) [
      | true ↦ λ is. record { is = ap (λ byte. byte ∷ text) (is_10 b is); one_line = All-nil (λ byte. byte ≢ 10) }
      | false ↦ λ is. one_more b text (cut_at 10 text) (is_other b is) (cut_as text)
    ] refl

either : (text : List ℕ) (cut : Cut) → IsCutAs text cut → HasNoNewline text ⊎ ((line : List ℕ) × (rest : List ℕ) × BeginsWithLine text line rest)
either text None none = inl none
either text (Some cut) begins = inr (cut.0, cut.1, begins)

pub cases_line : (text : List ℕ) → HasNoNewline text ⊎ ((line : List ℕ) × (rest : List ℕ) × BeginsWithLine text line rest)
cases_line text = either text (cut_at 10 text) (cut_as text)

-- and it is cut where the code cuts it
pub line_of_cut : (text : List ℕ) (o : Option (Bor (List ℕ) × Bor (List ℕ))) → option_map (λ cut. (cut.0.now, cut.1.now)) o ≡ cut_at 10 text
    → IfSome o (λ cut. BeginsWithLine text cut.0.now cut.1.now)
line_of_cut text None is = tt
line_of_cut text (Some cut) is = subst (IsCutAs text) (sym is) (cut_as text)

pub none_of_cut : (text : List ℕ) (o : Option (Bor (List ℕ) × Bor (List ℕ))) → option_map (λ cut. (cut.0.now, cut.1.now)) o ≡ cut_at 10 text
    → IfNone o (HasNoNewline text)
none_of_cut text None is = subst (IsCutAs text) (sym is) (cut_as text)
none_of_cut text (Some cut) is = tt

-- a whole line holds a newline, and a text begins with only one line
pub line_has_newline : {text line rest : List ℕ} → BeginsWithLine text line rest → HasNoNewline text → ⊥
line_has_newline {text} {line} {rest} begins none =
    let all : HasNoNewline (line ++ (10 ∷ rest)) = subst HasNoNewline begins.is none in
    all (length line) 0 (omega (arith, length-append line (10 ∷ rest))) (get_or_at line 10 rest 0 (length line) refl)

tail_has_none : (byte : ℕ) (text : List ℕ) → HasNoNewline (byte ∷ text) → HasNoNewline text
tail_has_none byte text none k d below = none (suc k) d (omega arith)

pub same_cut : (line line' rest rest' : List ℕ) → HasNoNewline line → HasNoNewline line' → line ++ (10 ∷ rest) ≡ line' ++ (10 ∷ rest') → (line ≡ line') × (rest ≡ rest')
same_cut [] [] rest rest' one one' e = (refl, cc)
same_cut [] (y ∷ ys) rest rest' one one' e = absurd (one' 0 0 (omega arith) cc)
same_cut (x ∷ xs) [] rest rest' one one' e = absurd (one 0 0 (omega arith) cc)
same_cut (x ∷ xs) (y ∷ ys) rest rest' one one' e =
    let tails : xs ++ (10 ∷ rest) ≡ ys ++ (10 ∷ rest') = cc in
    let heads : x ≡ y = cc in
    let same = same_cut xs ys rest rest' (tail_has_none x xs one) (tail_has_none y ys one') tails in
    (cc (heads, same.0), same.1)

pub same_line : {text line line' rest rest' : List ℕ} → BeginsWithLine text line rest → BeginsWithLine text line' rest' → (line ≡ line') × (rest ≡ rest')
same_line {text} {line} {line'} {rest} {rest'} begins begins' = same_cut line line' rest rest' begins.one_line begins'.one_line (sym begins.is ∙ begins'.is)
