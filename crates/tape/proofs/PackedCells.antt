-- The cells of a tape that is stored in words, as it is read, written, moved and counted.
use Rattle.std.proofs.Common.{◌≡◌, Bool, true, false, ℤ, sym, ◌∙◌, ap, refl, cond, ℕ, zero, suc, pos, ◌+ℤ◌, ◌<ℤ◌, List, [], ◌∷◌, get_or, arith, ◌≢◌, ◌-ℤ◌, ◌<◌, ◌+◌, ◌-◌, ◌*◌, ◌/◌, ◌%◌, ◌++◌, length, ◌^◌, reverse, Option, Some, None, append_assoc, Result, Ok, Err, OnErr, inl, inr, sum_by, count_ones}
use Rattle.std.specs.Ordering.{int_cmp}
use Rattle.std.specs.FinSet as set
use Rattle.std.specs.Cmp.{int_cmp_total}
use Rattle.std.proofs.lemmas.Int.{ints, by_lt_z}
use Rattle.std.specs.Int.{bit_at}
use Rattle.std.specs.Int.RustNames.{unsigned_abs}
use Rattle.std.proofs.lemmas.Nat.Bits.{bit_at_lowest, bit_at-suc, bit_at-zero}
use Rattle.std.proofs.lemmas.List.{get_or_append_left, get_or-append_right, reverse-append, length_push}
use Rattle.std.proofs.Math.Seq.{get_or-append_seam}
use Rattle.std.specs.Option.{option_to_list, unwrap_or, MatchOption}
use Rattle.std.specs.Bool.{⊤}
use Rattle.std.specs.Int.Count.{ones_step}
use Rattle.std.proofs.lemmas.Nat.{ones-le}
use Rattle.std.proofs.lemmas.List.Sums.{sum_by-cons, sum_by-append}
use Rattle.std.proofs.lemmas.List.Sorted.{sum_by-IsPermutation, IsPermutation-reverse}
use Rattle.machine_text.specs.declared.table.Sym.{Sym}
use Rattle.machine_text.specs.declared.table.Sym.TheVariants.{Zero, One}
use Rattle.law_turing.proofs.RunLaws.{by_place, cell_here, cell_other}
use Rattle.law_turing.specs.Terms.{Tape, symbol_read, written, cell_of, with_cell, blank, moved}
use Rattle.tape.specs.Cells.{ones_of, bit_symbol, symbols, symbols_of}
use Rattle.machine_text.specs.declared.table.Dir.TheVariants.{L, R}
use Rattle.tape.specs.inside.{stored, place_numbered, IsNearest, symbol_ones, word_ones}

-- When two tapes hold the same ones.

-- what is written is read at each name of its place
pub cell_same : (ones : set.FinSet int_cmp) (x : ℤ) (s : Sym) (q : ℤ) → q ≡ x → cell_of (with_cell ones x s) q ≡ s
cell_same ones x s q e = ap (cell_of (with_cell ones x s)) e ∙ cell_here ones x s

-- the blank tape has no one
pub cell_blank : (q : ℤ) → cell_of set.empty q ≡ Zero
cell_blank q = ap (λ b. cond b One Zero) (set.contains-empty int_cmp q)

is_one : Sym → Bool
is_one One = true
is_one Zero = false

is_one-cond : (b : Bool) → is_one (cond b One Zero) ≡ b
unfolding is_one
is_one-cond true = refl
is_one-cond false = refl

-- two tapes with the same cells hold the same ones
pub same_ones : (s t : set.FinSet int_cmp) → ((q : ℤ) → cell_of s q ≡ cell_of t q) → s ≡ t
same_ones s t same =
    set.same_set int_cmp_total set.int_cmp-IsAntisymmetric s t (λ q. sym (is_one-cond _) ∙ ap is_one (same q) ∙ is_one-cond _)

-- to write what stands there changes nothing
pub with_cell-cell_of : (ones : set.FinSet int_cmp) (x : ℤ) → with_cell ones x (cell_of ones x) ≡ ones
with_cell-cell_of ones x =
    same_ones _ _ (λ q. by_place q x (λ e. cell_same ones x (cell_of ones x) q e ∙ ap (cell_of ones) (sym e)) (cell_other ones x (cell_of ones x) q))

-- two tapes with the same head and ones are one
pub same_tape : (t u : Tape) → t.head ≡ u.head → t.ones ≡ u.ones → t ≡ u
same_tape t u head ones = λ i. record { head = head i; ones = ones i }

-- a tape on which what is read is written again is the tape
pub rewritten : (t : Tape) → written t (symbol_read t) ≡ t
rewritten t = same_tape _ t refl (with_cell-cell_of t.ones t.head)

-- The cells of symbols that are written from a place on.

-- left of them all is blank
pub blank_before : (x : ℤ) (word : List Sym) (q : ℤ) → q <ℤ x → cell_of (ones_of x word) q ≡ Zero
unfolding ones_of
blank_before x [] q h = cell_blank q
blank_before x (s ∷ word) q h =
    cell_other _ x s q (λ e. omega (arith, ints)) ∙ blank_before (x +ℤ pos 1) word q (omega (arith, ints))

-- from the place on the cells are the symbols, and blank after them
pub cell_in : (x : ℤ) (word : List Sym) (i : ℕ) (q : ℤ) → q ≡ x +ℤ pos i → cell_of (ones_of x word) q ≡ get_or word i Zero
unfolding ones_of
cell_in x [] i q e = cell_blank q
cell_in x (s ∷ word) zero q e = cell_same _ x s q (omega (arith, ints))
cell_in x (s ∷ word) (suc i) q e =
    cell_other _ x s q (λ here. omega (arith, ints)) ∙ cell_in (x +ℤ pos 1) word i q (omega (arith, ints))

-- The cells of words of 64, and the words that leave the same ones.
length-symbols : (k w : ℕ) → length (symbols k w) ≡ k
unfolding symbols
length-symbols zero w = refl
length-symbols (suc k) w = let rest = length-symbols k (w / 2) in omega (arith, rest)

get_or-symbols : (k w i : ℕ) → i < k → get_or (symbols k w) i Zero ≡ bit_symbol (bit_at w i)
unfolding symbols
get_or-symbols zero w i within = absurd (omega arith)
get_or-symbols (suc k) w zero within = ap bit_symbol (sym (bit_at_lowest w))
get_or-symbols (suc k) w (suc i) within = get_or-symbols k (w / 2) i (omega arith) ∙ ap bit_symbol (sym (bit_at-suc w i))

get_or-symbols_of : (words : List ℕ) (i j : ℕ) → j < 64 → get_or (symbols_of words) (64 * i + j) Zero ≡ bit_symbol (bit_at (get_or words i 0) j)
unfolding symbols_of
get_or-symbols_of [] i j within = sym (ap bit_symbol (bit_at-zero j))
get_or-symbols_of (w ∷ words) zero j within =
    let first : 64 * zero + j ≡ j = omega arith in
    let inside : j < length (symbols 64 w) = omega (arith, length-symbols 64 w) in
    ap (λ n. get_or (symbols 64 w ++ symbols_of words) n Zero) first
    ∙ get_or_append_left (symbols 64 w) (symbols_of words) Zero j inside
    ∙ get_or-symbols 64 w j within
get_or-symbols_of (w ∷ words) (suc i) j within =
    let rest : 64 * suc i + j - 64 ≡ 64 * i + j = omega arith in
    get_or-append_right (symbols 64 w) (symbols_of words) 64 (64 * suc i + j) Zero (length-symbols 64 w) (omega arith)
    ∙ ap (λ n. get_or (symbols_of words) n Zero) rest
    ∙ get_or-symbols_of words i j within

-- a cell is a bit of its word
pub cell_of-words : (x : ℤ) (words : List ℕ) (i j : ℕ) (q : ℤ) → j < 64 → q ≡ x +ℤ pos (64 * i + j) → cell_of (ones_of x (symbols_of words)) q ≡ bit_symbol (bit_at (get_or words i 0) j)
cell_of-words x words i j q within at = cell_in x (symbols_of words) (64 * i + j) q at ∙ get_or-symbols_of words i j within

-- what holds left of a place, and at each bit of the words from there on, holds
pub by_word : {P : Type 0} (x q : ℤ) → (q <ℤ x → P) → ((i j : ℕ) → j < 64 → q ≡ x +ℤ pos (64 * i + j) → P) → P
by_word x q before inside =
    by_lt_z q x before (λ le. let n = unsigned_abs (q -ℤ x) in let parts : n ≡ 64 * (n / 64) + n % 64 = omega arith in inside (n / 64) (n % 64) (omega arith) (omega (arith, ints, parts)))

-- words that are the same, but for blank ones after them, hold the same ones
pub same_words : (x : ℤ) (v w : List ℕ) → ((i : ℕ) → get_or v i 0 ≡ get_or w i 0) → ones_of x (symbols_of v) ≡ ones_of x (symbols_of w)
same_words x v w same =
    same_ones _ _ (λ q. by_word x q
    (λ before. blank_before x (symbols_of v) q before ∙ sym (blank_before x (symbols_of w) q before))
    (λ i j within at. cell_of-words x v i j q within at ∙ ap (λ n. bit_symbol (bit_at n j)) (same i) ∙ sym (cell_of-words x w i j q within at)))

pub get_or-blank_after : (words : List ℕ) (i : ℕ) → get_or (words ++ 0 ∷ []) i 0 ≡ get_or words i 0
get_or-blank_after [] zero = refl
get_or-blank_after [] (suc i) = refl
get_or-blank_after (w ∷ words) zero = refl
get_or-blank_after (w ∷ words) (suc i) = get_or-blank_after words i

-- a blank word before others adds no one
pub blank_word_before : (x y : ℤ) (words : List ℕ) → y ≡ x +ℤ pos 64 → ones_of x (symbols_of (0 ∷ words)) ≡ ones_of y (symbols_of words)
blank_word_before x y words next =
    same_ones _ _ (λ q. by_word x q
    (λ before. blank_before x (symbols_of (0 ∷ words)) q before ∙ sym (blank_before y (symbols_of words) q (omega (arith, ints))))
    (at q))
  where
    at : (q : ℤ) (i j : ℕ) → j < 64 → q ≡ x +ℤ pos (64 * i + j) → cell_of (ones_of x (symbols_of (0 ∷ words))) q ≡ cell_of (ones_of y (symbols_of words)) q
    at q zero j within e =
        cell_of-words x (0 ∷ words) zero j q within e ∙ ap bit_symbol (bit_at-zero j) ∙ sym (blank_before y (symbols_of words) q (omega (arith, ints)))
    at q (suc i) j within e =
        cell_of-words x (0 ∷ words) (suc i) j q within e ∙ sym (cell_of-words y words i j q within (omega (arith, ints)))

-- the bits of the words around one don't depend on it
pub bit_around : (front back : List ℕ) (w w' i j : ℕ) → (i ≡ length front → bit_at w j ≡ bit_at w' j) → bit_at (get_or (front ++ w ∷ back) i 0) j ≡ bit_at (get_or (front ++ w' ∷ back) i 0) j
bit_around [] back w w' zero j here = here refl
bit_around [] back w w' (suc i) j here = refl
bit_around (f ∷ front) back w w' zero j here = refl
bit_around (f ∷ front) back w w' (suc i) j here = bit_around front back w w' i j (λ e. here (omega (arith, e)))

-- the cell at a bit of a word between others
pub cell_of-between : (x : ℤ) (front back : List ℕ) (w j : ℕ) (q : ℤ) → j < 64 → q ≡ x +ℤ pos (64 * length front + j) → cell_of (ones_of x (symbols_of (front ++ w ∷ back))) q ≡ bit_symbol (bit_at w j)
cell_of-between x front back w j q within at =
    cell_of-words x (front ++ w ∷ back) (length front) j q within at ∙ ap (λ n. bit_symbol (bit_at n j)) (get_or-append_seam front w back 0)

-- a symbol is written into a word between others
pub with_cell-words : (x : ℤ) (front back : List ℕ) (w w' k : ℕ) (s : Sym) (q : ℤ) → k < 64 → q ≡ x +ℤ pos (64 * length front + k) → bit_symbol (bit_at w' k) ≡ s → ((i : ℕ) → i < 64 → i ≢ k → bit_at w' i ≡ bit_at w i) → with_cell (ones_of x (symbols_of (front ++ w ∷ back))) q s ≡ ones_of x (symbols_of (front ++ w' ∷ back))
with_cell-words x front back w w' k s q within at here others =
    same_ones _ _ (λ y. by_place y q
    (λ e. cell_same _ q s y e ∙ sym (cell_of-between x front back w' k y within (e ∙ at) ∙ here))
    (λ apart. cell_other _ q s y apart ∙ by_word x y
    (λ before. blank_before x (symbols_of (front ++ w ∷ back)) y before ∙ sym (blank_before x (symbols_of (front ++ w' ∷ back)) y before))
    (λ i j inside e. cell_of-words x (front ++ w ∷ back) i j y inside e
    ∙ ap bit_symbol (bit_around front back w w' i j (λ same. sym (others j inside (λ bit. apart (omega (arith, ints, same, bit))))))
    ∙ sym (cell_of-words x (front ++ w' ∷ back) i j y inside e))))

-- A tape as it is stored, the words on each side as a list with the nearest word last: what is read, written and moved.
same_at : (x y : ℤ) (v w : List ℕ) → x ≡ y → v ≡ w → ones_of x (symbols_of v) ≡ ones_of y (symbols_of w)
same_at x y v w e f = cc

-- nothing is visited yet
pub stored-blank : stored (2 ^ 57) 0 [] 0 [] ≡ blank
unfolding ones_of symbols_of
stored-blank = same_tape _ _ refl (blank_word_before (place_numbered (64 * 2 ^ 57) -ℤ pos (64 * 0)) (pos 64) [] refl)

pub symbol_read-stored : (b k : ℕ) (left : List ℕ) (w : ℕ) (right : List ℕ) → k < 64 → symbol_read (stored b k left w right) ≡ bit_symbol (bit_at w k)
symbol_read-stored b k left w right within = cell_of-between _ left (reverse right) w k _ within (omega (arith, ints))

pub written-stored : (b k : ℕ) (left : List ℕ) (w w' : ℕ) (right : List ℕ) (s : Sym) → k < 64 → bit_symbol (bit_at w' k) ≡ s → ((i : ℕ) → i < 64 → i ≢ k → bit_at w' i ≡ bit_at w i) → written (stored b k left w right) s ≡ stored b k left w' right
written-stored b k left w w' right s within here others = same_tape _ _ refl (with_cell-words _ left (reverse right) w w' k s _ within (omega (arith, ints)) here others)

-- a step inside the word
pub left_inside : (b k k' : ℕ) (left : List ℕ) (w : ℕ) (right : List ℕ) → k' + 1 ≡ k → stored b k' left w right ≡ moved (stored b k left w right) L
left_inside b k k' left w right step = same_tape _ _ (omega (arith, ints)) refl

pub right_inside : (b k k' : ℕ) (left : List ℕ) (w : ℕ) (right : List ℕ) → k' ≡ k + 1 → stored b k' left w right ≡ moved (stored b k left w right) R
right_inside b k k' left w right step = same_tape _ _ (omega (arith, ints)) refl

-- the right side after a word was put last on it
reverse-push : (right right' : List ℕ) (w : ℕ) → right' ≡ right ++ w ∷ [] → reverse right' ≡ w ∷ reverse right
reverse-push right right' w pushed = ap reverse pushed ∙ reverse-append right (w ∷ [])

-- a step of the head into the word to the left, or into a blank one that is new
left_edge : (b b' : ℕ) (left left' right right' : List ℕ) (w w' : ℕ) (o : Option ℕ) → b' + 1 ≡ b → left ≡ left' ++ option_to_list o → MatchOption o (length left' ≡ 0) (λ _. ⊤) → w' ≡ unwrap_or o 0 → right' ≡ right ++ w ∷ [] → stored b' 63 left' w' right' ≡ moved (stored b 0 left w right) L
left_edge b b' left [] right right' w w' None to popped none is pushed =
    let size : length left ≡ 0 = ap length popped in
    let words : w' ∷ reverse right' ≡ 0 ∷ (w ∷ reverse right) = ap (λ a. a ∷ reverse right') is ∙ ap (λ v. 0 ∷ v) (reverse-push right right' w pushed) in
    let after : w ∷ reverse right ≡ left ++ w ∷ reverse right = ap (λ v. v ++ w ∷ reverse right) (sym popped) in
    let first : place_numbered (64 * b') -ℤ pos (64 * 0) ≡ place_numbered (64 * b) -ℤ pos 64 = omega (arith, ints) in
    let second : place_numbered (64 * b) ≡ place_numbered (64 * b) -ℤ pos (64 * length left) = omega (arith, ints) in
    same_tape _ _ (omega (arith, ints)) (same_at _ _ _ _ first words ∙ blank_word_before (place_numbered (64 * b) -ℤ pos 64) (place_numbered (64 * b)) (w ∷ reverse right) (omega (arith, ints)) ∙ same_at _ _ _ _ second after)
left_edge b b' left (x ∷ left') right right' w w' None to popped none is pushed = absurd (omega (arith, none))
left_edge b b' left left' right right' w w' (Some r) to popped none is pushed =
    let size : length left ≡ length left' + 1 = ap length popped ∙ length_push left' r in
    let first : place_numbered (64 * b') -ℤ pos (64 * length left') ≡ place_numbered (64 * b) -ℤ pos (64 * length left) = omega (arith, ints) in
    let tail : w' ∷ reverse right' ≡ r ∷ (w ∷ reverse right) = ap (λ a. a ∷ reverse right') is ∙ ap (λ v. r ∷ v) (reverse-push right right' w pushed) in
    let words : left' ++ w' ∷ reverse right' ≡ left ++ w ∷ reverse right = ap (λ v. left' ++ v) tail ∙ sym (append_assoc left' (r ∷ []) (w ∷ reverse right)) ∙ ap (λ v. v ++ w ∷ reverse right) (sym popped) in
    same_tape _ _ (omega (arith, ints)) (same_at _ _ _ _ first words)

-- a step of the head into the word to the right, or into a blank one that is new
right_edge : (b b' : ℕ) (left left' right right' : List ℕ) (w w' : ℕ) (o : Option ℕ) → b' ≡ b + 1 → right ≡ right' ++ option_to_list o → MatchOption o (length right' ≡ 0) (λ _. ⊤) → w' ≡ unwrap_or o 0 → left' ≡ left ++ w ∷ [] → stored b' 0 left' w' right' ≡ moved (stored b 63 left w right) R
right_edge b b' left left' right [] w w' None to popped none is pushed =
    let size : length left' ≡ length left + 1 = ap length pushed ∙ length_push left w in
    let first : place_numbered (64 * b') -ℤ pos (64 * length left') ≡ place_numbered (64 * b) -ℤ pos (64 * length left) = omega (arith, ints) in
    let words : left' ++ w' ∷ [] ≡ (left ++ w ∷ []) ++ 0 ∷ [] = ap (λ v. v ++ w' ∷ []) pushed ∙ ap (λ a. (left ++ w ∷ []) ++ a ∷ []) is in
    let after : left ++ w ∷ [] ≡ left ++ w ∷ reverse right = ap (λ v. left ++ w ∷ reverse v) (sym popped) in
    same_tape _ _ (omega (arith, ints)) (same_at _ _ _ _ first words ∙ same_words _ _ (left ++ w ∷ []) (get_or-blank_after (left ++ w ∷ [])) ∙ same_at _ _ _ _ refl after)
right_edge b b' left left' right (x ∷ right') w w' None to popped none is pushed = absurd (omega (arith, none))
right_edge b b' left left' right right' w w' (Some r) to popped none is pushed =
    let size : length left' ≡ length left + 1 = ap length pushed ∙ length_push left w in
    let first : place_numbered (64 * b') -ℤ pos (64 * length left') ≡ place_numbered (64 * b) -ℤ pos (64 * length left) = omega (arith, ints) in
    let tail : w' ∷ reverse right' ≡ reverse right = ap (λ a. a ∷ reverse right') is ∙ sym (reverse-push right' right r popped) in
    let words : left' ++ w' ∷ reverse right' ≡ left ++ w ∷ reverse right = ap (λ v. v ++ w' ∷ reverse right') pushed ∙ append_assoc left (w ∷ []) (w' ∷ reverse right') ∙ ap (λ v. left ++ w ∷ v) tail in
    same_tape _ _ (omega (arith, ints)) (same_at _ _ _ _ first words)

-- the same, where a side gave its nearest word
pub left_edge-nearest : (b b' : ℕ) (left left' right right' : List ℕ) (w w' : ℕ) → b' + 1 ≡ b → IsNearest left w' left' → right' ≡ right ++ w ∷ [] → stored b' 63 left' w' right' ≡ moved (stored b 0 left w right) L
left_edge-nearest b b' left left' right right' w w' to (inl popped) pushed = left_edge b b' left left' right right' w w' (Some w') to popped tt refl pushed
left_edge-nearest b b' left left' right right' w w' to (inr none) pushed =
    let same : left ≡ left' ++ [] = none.0 ∙ ap (λ (v : List ℕ). v ++ []) (sym none.1) in
    left_edge b b' left left' right right' w w' None to same (ap length none.1) none.2 pushed

pub right_edge-nearest : (b b' : ℕ) (left left' right right' : List ℕ) (w w' : ℕ) → b' ≡ b + 1 → IsNearest right w' right' → left' ≡ left ++ w ∷ [] → stored b' 0 left' w' right' ≡ moved (stored b 63 left w right) R
right_edge-nearest b b' left left' right right' w w' to (inl popped) pushed = right_edge b b' left left' right right' w w' (Some w') to popped tt refl pushed
right_edge-nearest b b' left left' right right' w w' to (inr none) pushed =
    let same : right ≡ right' ++ [] = none.0 ∙ ap (λ (v : List ℕ). v ++ []) (sym none.1) in
    right_edge b b' left left' right right' w w' None to same (ap length none.1) none.2 pushed

-- what is so is so after an error
pub on_err : {T E A : Type 0} (r : Result T E) → A → OnErr r A
on_err (Ok t) h = tt
on_err (Err e) h = h

-- How many ones a tape holds: as many as there are set bits in its words.
not_there : (b : Bool) → cond b One Zero ≡ Zero → b ≡ false
not_there true blank = absurd cc
not_there false blank = refl

-- a symbol at a place that holds no one
len-with_cell : (x : ℤ) (s : Sym) (written : List Sym) → set.len (ones_of x (s ∷ written)) ≡ symbol_ones s + set.len (ones_of (x +ℤ pos 1) written)
unfolding ones_of
len-with_cell x s written = go s
  where
    rest : set.FinSet int_cmp
    rest = ones_of (x +ℤ pos 1) written

    new : set.contains rest x ≡ false
    new = not_there (set.contains rest x) (blank_before (x +ℤ pos 1) written x (omega (arith, ints)))

    go : (s : Sym) → set.len (ones_of x (s ∷ written)) ≡ symbol_ones s + set.len rest
    go Zero = let same = set.len-remove int_cmp_total rest x ∙ ap (λ b. cond b (set.len rest - 1) (set.len rest)) new in omega (arith, same)
    go One = let more = set.len-insert int_cmp_total rest x ∙ ap (λ b. cond b (set.len rest) (set.len rest + 1)) new in omega (arith, more)

-- symbols are written at places of their own, so each one counts
len-ones_of : (x : ℤ) (written : List Sym) → set.len (ones_of x written) ≡ sum_by symbol_ones written
unfolding ones_of
len-ones_of x [] = set.len-empty int_cmp
len-ones_of x (s ∷ written) = len-with_cell x s written ∙ ap (λ n. symbol_ones s + n) (len-ones_of (x +ℤ pos 1) written) ∙ sym (sum_by-cons symbol_ones s written)

symbol_ones-bit : (n : ℕ) → n < 2 → symbol_ones (bit_symbol n) ≡ n
symbol_ones-bit zero small = refl
symbol_ones-bit (suc zero) small = refl
symbol_ones-bit (suc (suc n)) small = absurd (omega (arith, small))

-- the ones among the lowest bits of a word that has no others
ones-symbols : (k w : ℕ) → w < 2 ^ k → sum_by symbol_ones (symbols k w) ≡ count_ones w
unfolding symbols
ones-symbols zero w fits = let none = ones-le 0 w fits in omega (arith, none)
ones-symbols (suc k) w fits =
    let first = symbol_ones-bit (w % 2) (omega arith) in
    let rest = ones-symbols k (w / 2) (omega arith) in
    let parts = sum_by-cons symbol_ones (bit_symbol (w % 2)) (symbols k (w / 2)) in
    omega (arith, parts, first, rest, ones_step w)

-- the set bits of a word are its ones
pub word_ones-bits : (w : ℕ) → w < 2 ^ 64 → word_ones w ≡ count_ones w
unfolding word_ones
word_ones-bits w fits = ones-symbols 64 w fits

-- the ones of words side by side
ones-symbols_of : (words : List ℕ) → sum_by symbol_ones (symbols_of words) ≡ sum_by word_ones words
unfolding symbols_of word_ones
ones-symbols_of [] = refl
ones-symbols_of (w ∷ words) =
    sum_by-append symbol_ones (symbols 64 w) (symbols_of words)
    ∙ ap (λ n. sum_by symbol_ones (symbols 64 w) + n) (ones-symbols_of words)
    ∙ sym (sum_by-cons word_ones w words)

-- the ones of a tape as it is stored: those of the words on both sides, and of the word under the head
pub len-stored : (b k : ℕ) (left : List ℕ) (w : ℕ) (right : List ℕ) → set.len (stored b k left w right).ones ≡ sum_by word_ones left + word_ones w + sum_by word_ones right
len-stored b k left w right =
    let words = len-ones_of (place_numbered (64 * b) -ℤ pos (64 * length left)) (symbols_of (left ++ w ∷ reverse right)) ∙ ones-symbols_of (left ++ w ∷ reverse right) in
    let turned = sum_by-IsPermutation word_ones right (reverse right) (IsPermutation-reverse right) in
    omega (arith, words, turned, sum_by-append word_ones left (w ∷ reverse right), sum_by-cons word_ones w (reverse right))
