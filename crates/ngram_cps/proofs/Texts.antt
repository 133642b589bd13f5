-- The text of a local configuration, and the texts of a step from it.
use Rattle.std.proofs.Common.{◌≡◌, ℕ, zero, suc, ◌+◌, ◌-◌, ◌*◌, List, [], ◌∷◌, ◌++◌, length, take, drop, get_or, map, replicate, inl, inr, sym, ◌∙◌, ap, refl, arith}
use Rattle.std.specs.Prelude.{IsTrue}
use Rattle.std.proofs.lemmas.List.{length-map, map-append, length-append, length-take-le, length-drop, take-append-drop, get_or-append-add, append_assoc}
use Rattle.std.proofs.Math.Seq.{drop-append-add, take-append_seam, drop-cons}
use Rattle.std.proofs.lemmas.Bool.{cases_eq}
use Rattle.std.proofs.lemmas.Bool.Decides.{nat_tests}
use Rattle.machine_text.specs.declared.table.Sym.{Sym}
use Rattle.machine_text.specs.declared.table.Sym.TheVariants.{Zero, One}
use Rattle.machine_text.specs.Terms.{symbol_of, symbol_byte}
use Rattle.law_turing.specs.Terms.{Local}
use Rattle.ngram_cps.specs.Words.{word_text, local_text, is_digit, IsWordText, IsLocalText}
use Rattle.ngram_cps.specs.inside.{left_after, right_seen, local_right, right_after, left_seen, local_left}

-- lists one behind the other, where the first has n elements
drop_past : (n k : ℕ) (xs ys : List ℕ) → length xs ≡ n → drop (n + k) (xs ++ ys) ≡ drop k ys
drop_past n k xs ys size = ap (λ i. drop (i + k) (xs ++ ys)) (sym size) ∙ drop-append-add xs ys k

get_past : (n k : ℕ) (xs ys : List ℕ) → length xs ≡ n → get_or (xs ++ ys) (n + k) 0 ≡ get_or ys k 0
get_past n k xs ys size = ap (λ i. get_or (xs ++ ys) (i + k) 0) (sym size) ∙ get_or-append-add xs ys k 0

take_first : (n : ℕ) (xs ys : List ℕ) → length xs ≡ n → take n (xs ++ ys) ≡ xs
take_first n xs ys size = ap (λ i. take i (xs ++ ys)) (sym size) ∙ take-append_seam xs ys

nothing_behind : (xs : List ℕ) → xs ++ [] ≡ xs
nothing_behind [] = refl
nothing_behind (x ∷ xs) = ap (λ ys. x ∷ ys) (nothing_behind xs)

take_whole : (n : ℕ) (xs : List ℕ) → length xs ≡ n → take n xs ≡ xs
take_whole n xs size = ap (take n) (sym (nothing_behind xs)) ∙ take_first n xs [] size

-- a word with one symbol more
text_more : (w : List Sym) (s : Sym) → word_text (w ++ s ∷ []) ≡ word_text w ++ symbol_byte s ∷ []
text_more w s = map-append symbol_byte w (s ∷ [])

text_size : (w : List Sym) (n : ℕ) → length w ≡ n → length (word_text w) ≡ n
text_size w n size = length-map w symbol_byte ∙ size

pub zero_text : (n : ℕ) → word_text (replicate n Zero) ≡ replicate n 48
zero_text zero = refl
zero_text (suc n) = ap (λ ys. 48 ∷ ys) (zero_text n)

-- the bytes of a state and of the symbol read, in the text of a local configuration
pub state_byte : (g : ℕ) (c : Local) → length c.left ≡ g → get_or (local_text c) g 0 ≡ 65 + c.state
state_byte g c size =
    let e : g + 0 ≡ g = omega arith in
    ap (λ i. get_or (local_text c) i 0) (sym e) ∙ get_past g 0 (word_text c.left) ((65 + c.state) ∷ symbol_byte c.read ∷ word_text c.right) (text_size c.left g size)

pub read_byte : (g : ℕ) (c : Local) → length c.left ≡ g → get_or (local_text c) (g + 1) 0 ≡ symbol_byte c.read
read_byte g c size = get_past g 1 (word_text c.left) ((65 + c.state) ∷ symbol_byte c.read ∷ word_text c.right) (text_size c.left g size)

pub symbol_again : (s : Sym) → symbol_of (symbol_byte s - 48) ≡ s
symbol_again Zero = refl
symbol_again One = refl

-- the texts after a step to the right from this local configuration
unfoldable pub text_r : Sym → List Sym → ℕ → Sym → Sym → List Sym → List ℕ
text_r l0 l q s r0 r = local_text (record { left = l0 ∷ l; state = q; read = s; right = r0 ∷ r })

module _ (g q : ℕ) (l0 s r0 : Sym) (l r : List Sym) (left : length l + 1 ≡ g) (right : length r + 1 ≡ g) where
  left_length : length (word_text (l0 ∷ l)) ≡ g
  left_length = let n = length-map l symbol_byte in omega arith

  pub left_is_r : (w : Sym) → left_after g (text_r l0 l q s r0 r) (symbol_byte w) ≡ word_text (l ++ w ∷ [])
  unfolding left_after text_r
  left_is_r w =
      ap (λ x. x ++ symbol_byte w ∷ []) (take_first (g - 1) (word_text l) ((65 + q) ∷ symbol_byte s ∷ word_text (r0 ∷ r)) (text_size l (g - 1) (omega arith))) ∙ sym (text_more l w)

  pub right_is_r : (x : Sym) → right_seen g (text_r l0 l q s r0 r) (symbol_byte x) ≡ word_text (r ++ x ∷ [])
  unfolding right_seen text_r
  right_is_r x =
      ap (λ y. take (g - 1) y ++ symbol_byte x ∷ []) (drop_past g 3 (word_text (l0 ∷ l)) ((65 + q) ∷ symbol_byte s ∷ word_text (r0 ∷ r)) left_length)
      ∙ ap (λ y. y ++ symbol_byte x ∷ []) (take_whole (g - 1) (word_text r) (text_size r (g - 1) (omega arith))) ∙ sym (text_more r x)

  next_is_r : get_or (text_r l0 l q s r0 r) (g + 2) 0 ≡ symbol_byte r0
  unfolding text_r
  next_is_r = get_past g 2 (word_text (l0 ∷ l)) ((65 + q) ∷ symbol_byte s ∷ word_text (r0 ∷ r)) left_length

  pub local_is_r : (w x : Sym) (p : ℕ) → local_right g (text_r l0 l q s r0 r) (symbol_byte w) (65 + p) (symbol_byte x) ≡ local_text (record { left = l ++ w ∷ []; state = p; read = r0; right = r ++ x ∷ [] })
  unfolding local_right
  local_is_r w x p =
      ap (λ y. y ++ (65 + p) ∷ get_or (text_r l0 l q s r0 r) (g + 2) 0 ∷ right_seen g (text_r l0 l q s r0 r) (symbol_byte x)) (left_is_r w)
      ∙ ap (λ y. word_text (l ++ w ∷ []) ++ (65 + p) ∷ y ∷ right_seen g (text_r l0 l q s r0 r) (symbol_byte x)) next_is_r
      ∙ ap (λ y. word_text (l ++ w ∷ []) ++ (65 + p) ∷ symbol_byte r0 ∷ y) (right_is_r x)

-- and after a step to the left
unfoldable pub text_l : Sym → List Sym → ℕ → Sym → Sym → List Sym → List ℕ
text_l l0 l q s r0 r = local_text (record { left = l ++ l0 ∷ []; state = q; read = s; right = r ++ r0 ∷ [] })

module _ (g q : ℕ) (l0 s r0 : Sym) (l r : List Sym) (left : length l + 1 ≡ g) (right : length r + 1 ≡ g) where
  left_length_l : length (word_text (l ++ l0 ∷ [])) ≡ g
  left_length_l = let n = length-map (l ++ l0 ∷ []) symbol_byte in let m = length-append l (l0 ∷ []) in omega arith

  -- the text with the last symbol of the left word apart
  apart : text_l l0 l q s r0 r ≡ word_text l ++ symbol_byte l0 ∷ (65 + q) ∷ symbol_byte s ∷ word_text (r ++ r0 ∷ [])
  unfolding text_l
  apart =
      ap (λ y. y ++ (65 + q) ∷ symbol_byte s ∷ word_text (r ++ r0 ∷ [])) (text_more l l0)
      ∙ append_assoc (word_text l) (symbol_byte l0 ∷ []) ((65 + q) ∷ symbol_byte s ∷ word_text (r ++ r0 ∷ []))

  pub left_is_l : (x : Sym) → left_seen g (text_l l0 l q s r0 r) (symbol_byte x) ≡ word_text (x ∷ l)
  unfolding left_seen
  left_is_l x =
      ap (λ y. symbol_byte x ∷ take (g - 1) y) apart
      ∙ ap (λ y. symbol_byte x ∷ y) (take_first (g - 1) (word_text l) (symbol_byte l0 ∷ (65 + q) ∷ symbol_byte s ∷ word_text (r ++ r0 ∷ [])) (text_size l (g - 1) (omega arith)))

  pub right_is_l : (w : Sym) → right_after g (text_l l0 l q s r0 r) (symbol_byte w) ≡ word_text (w ∷ r)
  unfolding right_after text_l
  right_is_l w =
      ap (λ y. symbol_byte w ∷ take (g - 1) y) (drop_past g 2 (word_text (l ++ l0 ∷ [])) ((65 + q) ∷ symbol_byte s ∷ word_text (r ++ r0 ∷ [])) left_length_l)
      ∙ ap (λ y. symbol_byte w ∷ take (g - 1) y) (text_more r r0)
      ∙ ap (λ y. symbol_byte w ∷ y) (take_first (g - 1) (word_text r) (symbol_byte r0 ∷ []) (text_size r (g - 1) (omega arith)))

  next_is_l : get_or (text_l l0 l q s r0 r) (g - 1) 0 ≡ symbol_byte l0
  next_is_l =
      let e : (g - 1) + 0 ≡ g - 1 = omega arith in
      ap (λ y. get_or y (g - 1) 0) apart
      ∙ ap (λ i. get_or (word_text l ++ symbol_byte l0 ∷ (65 + q) ∷ symbol_byte s ∷ word_text (r ++ r0 ∷ [])) i 0) (sym e)
      ∙ get_past (g - 1) 0 (word_text l) (symbol_byte l0 ∷ (65 + q) ∷ symbol_byte s ∷ word_text (r ++ r0 ∷ [])) (text_size l (g - 1) (omega arith))

  pub local_is_l : (w x : Sym) (p : ℕ) → local_left g (text_l l0 l q s r0 r) (symbol_byte w) (65 + p) (symbol_byte x) ≡ local_text (record { left = x ∷ l; state = p; read = l0; right = w ∷ r })
  unfolding local_left
  local_is_l w x p =
      ap (λ y. y ++ (65 + p) ∷ get_or (text_l l0 l q s r0 r) (g - 1) 0 ∷ right_after g (text_l l0 l q s r0 r) (symbol_byte w)) (left_is_l x)
      ∙ ap (λ y. word_text (x ∷ l) ++ (65 + p) ∷ y ∷ right_after g (text_l l0 l q s r0 r) (symbol_byte w)) next_is_l
      ∙ ap (λ y. word_text (x ∷ l) ++ (65 + p) ∷ symbol_byte l0 ∷ y) (right_is_l w)

-- bytes that are symbols are the text of a word
pub spell : List ℕ → List Sym
spell bytes = map (λ b. symbol_of (b - 48)) bytes

digit_again : (b : ℕ) → IsTrue (is_digit b) → symbol_byte (symbol_of (b - 48)) ≡ b
digit_again b digit =
    elim (cases_eq b 48) [
      | inl same ↦ ap (λ x. symbol_byte (symbol_of (x - 48))) same ∙ sym same
      | inr other ↦
          let one : b ≡ 49 = grind (arith, nat_tests, digit, other) in
          ap (λ x. symbol_byte (symbol_of (x - 48))) one ∙ sym one
    ]

pub spell_text : (bytes : List ℕ) → IsWordText bytes → word_text (spell bytes) ≡ bytes
unfolding spell
spell_text [] word = refl
spell_text (b ∷ bs) word =
    ap (λ x. x ∷ word_text (spell bs)) (digit_again b (word.digits 0 (omega arith)))
    ∙ ap (λ xs. b ∷ xs) (spell_text bs (record { digits = λ i within. word.digits (suc i) (omega arith) }))

spell_size : (bytes : List ℕ) (n : ℕ) → length bytes ≡ n → length (spell bytes) ≡ n
unfolding spell
spell_size bytes n size = length-map bytes (λ b. symbol_of (b - 48)) ∙ size

-- and bytes of the right shape are the text of a local configuration
pub spelled : ℕ → List ℕ → Local
spelled g bytes = record { left = spell (take g bytes); state = get_or bytes g 0 - 65; read = symbol_of (get_or bytes (g + 1) 0 - 48); right = spell (drop (g + 2) bytes) }

pub spelled_left : (g : ℕ) (bytes : List ℕ) → length bytes ≡ 2 * g + 2 → length (spelled g bytes).left ≡ g
unfolding spelled
spelled_left g bytes size = spell_size (take g bytes) g (length-take-le g bytes (omega arith))

pub spelled_right : (g : ℕ) (bytes : List ℕ) → length bytes ≡ 2 * g + 2 → length (spelled g bytes).right ≡ g
unfolding spelled
spelled_right g bytes size = spell_size (drop (g + 2) bytes) g (let n = length-drop (g + 2) bytes in omega arith)

pub spelled_text : (n g : ℕ) (bytes : List ℕ) → length bytes ≡ 2 * g + 2 → IsLocalText n g bytes → local_text (spelled g bytes) ≡ bytes
unfolding spelled
spelled_text n g bytes size shape =
    let letter = shape.letter in
    let state : 65 + (get_or bytes g 0 - 65) ≡ get_or bytes g 0 = omega arith in
    let read = digit_again (get_or bytes (g + 1) 0) shape.read in
    let first : drop g bytes ≡ get_or bytes g 0 ∷ drop (g + 1) bytes = drop-cons bytes g 0 (omega arith) ∙ ap (λ i. get_or bytes g 0 ∷ drop i bytes) (let e : suc g ≡ g + 1 = omega arith in e) in
    let second : drop (g + 1) bytes ≡ get_or bytes (g + 1) 0 ∷ drop (g + 2) bytes = drop-cons bytes (g + 1) 0 (omega arith) ∙ ap (λ i. get_or bytes (g + 1) 0 ∷ drop i bytes) (let e : suc (g + 1) ≡ g + 2 = omega arith in e) in
    ap (λ y. y ++ (65 + (get_or bytes g 0 - 65)) ∷ symbol_byte (symbol_of (get_or bytes (g + 1) 0 - 48)) ∷ word_text (spell (drop (g + 2) bytes))) (spell_text (take g bytes) shape.left)
    ∙ ap (λ y. take g bytes ++ y ∷ symbol_byte (symbol_of (get_or bytes (g + 1) 0 - 48)) ∷ word_text (spell (drop (g + 2) bytes))) state
    ∙ ap (λ y. take g bytes ++ get_or bytes g 0 ∷ y ∷ word_text (spell (drop (g + 2) bytes))) read
    ∙ ap (λ y. take g bytes ++ get_or bytes g 0 ∷ get_or bytes (g + 1) 0 ∷ y) (spell_text (drop (g + 2) bytes) shape.right)
    ∙ ap (λ y. take g bytes ++ get_or bytes g 0 ∷ y) (sym second)
    ∙ ap (λ y. take g bytes ++ y) (sym first)
    ∙ take-append-drop g bytes
