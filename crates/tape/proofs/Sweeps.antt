-- A sweep or a change of sixteen cells leaves all other cells of a tape as they are.
use Rattle.std.proofs.Common.{◌≢◌, ◌≤◌, ◌≡◌, ℕ, zero, suc, ℤ, pos, ◌+ℤ◌, ◌-ℤ◌, ◌+◌, ◌*◌, ◌<◌, List, [], ◌∷◌, ◌++◌, length, reverse, ◌⊎◌, subst, sym, ◌∙◌, ap, refl, arith, inl, inr, ◌-◌, ◌/◌, ◌%◌, ◌^◌, bit_and, bit_or, min, max}
use Rattle.std.specs.Int.{bit_at, bit_not, w64}
use Rattle.std.proofs.lemmas.Int.{ints}
use Rattle.std.proofs.lemmas.Bool.{cases_lt}
use Rattle.std.proofs.lemmas.Nat.Bits.{bit_at-lt, bit_at_above, bit_at_and, bit_at_or, bit_at_not, bit_at_ones, bit_at_ones_above}
use Rattle.std.specs.Ordering.{int_cmp}
use Rattle.std.specs.FinSet as set
use Rattle.machine_text.specs.declared.table.Sym.{Sym}
use Rattle.machine_text.specs.declared.table.Dir.{Dir}
use Rattle.machine_text.specs.declared.table.Dir.TheVariants.{L, R}
use Rattle.law_turing.specs.Terms.{Tape, cell_of, symbol_read, moved}
use Rattle.tape.specs.Cells.{ones_of, bit_symbol, symbols_of, swept, IsPastEdge, EndsSweep, HoldsCells, SameBut, Crosses, place_beyond}
use Rattle.tape.specs.inside.{stored, place_numbered, bit_ahead, HasCells, HasAllCells, IsNearest}
use Rattle.law_turing.proofs.RunLaws.{by_place, cell_other}
use Rattle.tape.proofs.PackedCells.{cell_same, same_ones, same_tape, blank_before, by_word, bit_around, cell_of-words, cell_of-between, left_edge-nearest, right_edge-nearest, symbol_read-stored}
use Rattle.tape.proofs.WordBits.{bit_inside, shifted_down, moved_up, moved_up-below}

-- A sweep changes the cells that the head goes over, and no other: of a tape, and of one stored in words.

-- the place so many cells ahead
abbrev ahead : Dir → ℤ → ℕ → ℤ
ahead L x i = x -ℤ pos i
ahead R x i = x +ℤ pos i

apart : (d : Dir) (x : ℤ) (i n : ℕ) → i < n → ahead d x i ≡ ahead d x n → ⊥
apart L x i n less same = omega (arith, ints, less, same)
apart R x i n less same = omega (arith, ints, less, same)

swept_head : (d : Dir) (s : Sym) (t : Tape) (n : ℕ) → (swept d s t n).head ≡ ahead d t.head n
unfolding swept
swept_head L s t zero = omega (arith, ints)
swept_head R s t zero = omega (arith, ints)
swept_head L s t (suc n) = let before = swept_head L s t n in omega (arith, ints, before)
swept_head R s t (suc n) = let before = swept_head R s t n in omega (arith, ints, before)

-- a cell that the head didn't come to is as it was
cell_kept : (d : Dir) (s : Sym) (t : Tape) (n : ℕ) (q : ℤ) → ((i : ℕ) → i < n → q ≡ ahead d t.head i → ⊥) → cell_of (swept d s t n).ones q ≡ cell_of t.ones q
unfolding swept
cell_kept d s t zero q other = refl
cell_kept d s t (suc n) q other =
    cell_other _ _ s q (λ e. other n (omega arith) (e ∙ swept_head d s t n)) ∙ cell_kept d s t n q (λ i less. other i (omega (arith, less)))

-- a cell that the head went over holds the symbol
cell_swept : (d : Dir) (s : Sym) (t : Tape) (n i : ℕ) (q : ℤ) → i < n → q ≡ ahead d t.head i → cell_of (swept d s t n).ones q ≡ s
unfolding swept
cell_swept d s t zero i q less at = absurd (omega (arith, less))
cell_swept d s t (suc n) i q less at =
    elim (cases_lt i n) [
      | inl before ↦ cell_other _ _ s q (λ e. apart d t.head i n before (sym at ∙ e ∙ swept_head d s t n)) ∙ cell_swept d s t n i q before at
      | inr last ↦ (let same : i ≡ n = omega (arith, less, last) in cell_same _ _ s q (at ∙ ap (ahead d t.head) same ∙ sym (swept_head d s t n)))
    ]

-- what the head reads on its way is what stood there before
pub read_ahead : (d : Dir) (s : Sym) (t : Tape) (i : ℕ) → symbol_read (swept d s t i) ≡ cell_of t.ones (ahead d t.head i)
read_ahead d s t i =
    ap (cell_of (swept d s t i).ones) (swept_head d s t i) ∙ cell_kept d s t i (ahead d t.head i) (λ j less same. apart d t.head j i less (sym same))

-- what holds at a place that the head comes to, and at any other, holds
by_way : {P : Type 0} (d : Dir) (x : ℤ) (n : ℕ) (q : ℤ) → ((i : ℕ) → i < n → q ≡ ahead d x i → P) → (((i : ℕ) → i < n → q ≡ ahead d x i → ⊥) → P) → P
by_way d x zero q on off = off (λ i less. absurd (omega (arith, less)))
by_way {P} d x (suc n) q on off =
    by_place q (ahead d x n)
    (λ e. on n (omega arith) e)
    (λ last. by_way d x n q (λ i less. on i (omega (arith, less))) (λ none. off (all last none)))
  where
    all : (q ≡ ahead d x n → ⊥) → ((i : ℕ) → i < n → q ≡ ahead d x i → ⊥) → (i : ℕ) → i < suc n → q ≡ ahead d x i → ⊥
    all last none i less e =
        elim (cases_lt i n) [
          | inl before ↦ none i before e
          | inr at ↦ (let same : i ≡ n = omega (arith, less, at) in last (e ∙ ap (ahead d x) same))
        ]

-- the bit of a cell ahead in the word
place_ahead : (d : Dir) (b k n i : ℕ) → HasCells d k n → i < n → ahead d (place_numbered (64 * b + k)) i ≡ place_numbered (64 * b + bit_ahead d k i)
place_ahead L b k n i room less = omega (arith, ints, room, less)
place_ahead R b k n i room less = omega (arith, ints, room, less)

-- like bits ahead are like cells on the way
pub alike_ahead : (d : Dir) (s : Sym) (b k : ℕ) (left : List ℕ) (w : ℕ) (right : List ℕ) (n : ℕ) → k < 64 → HasCells d k n → ((i : ℕ) → i < n → bit_at w (bit_ahead d k i) ≡ bit_at w k)
    → (i : ℕ) → i < n → symbol_read (swept d s (stored b k left w right) i) ≡ symbol_read (stored b k left w right)
alike_ahead d s b k left w right n within room alike i less =
    let first : place_numbered (64 * b) -ℤ pos (64 * length left) +ℤ pos (64 * length left + bit_ahead d k i) ≡ place_numbered (64 * b + bit_ahead d k i) = omega (arith, ints) in
    read_ahead d s (stored b k left w right) i
    ∙ cell_of-between _ left (reverse right) w (bit_ahead d k i) _ (bit_inside d k n i within room less) (place_ahead d b k n i room less ∙ sym first)
    ∙ ap bit_symbol (alike i less)
    ∙ sym (symbol_read-stored b k left w right within)

-- the cells after a sweep within a word
swept-stored : (d : Dir) (s : Sym) (b k : ℕ) (left : List ℕ) (w w' : ℕ) (right : List ℕ) (n : ℕ) → k < 64 → HasCells d k n → ((i : ℕ) → i < n → bit_symbol (bit_at w' (bit_ahead d k i)) ≡ s)
    → ((j : ℕ) → j < 64 → ((i : ℕ) → i < n → j ≡ bit_ahead d k i → ⊥) → bit_at w' j ≡ bit_at w j)
    → (swept d s (stored b k left w right) n).ones ≡ ones_of (place_numbered (64 * b) -ℤ pos (64 * length left)) (symbols_of (left ++ w' ∷ reverse right))
swept-stored d s b k left w w' right n within room here others = same_ones _ _ (λ q. by_way d (place_numbered (64 * b + k)) n q (on q) (off q))
  where
    x : ℤ
    x = place_numbered (64 * b) -ℤ pos (64 * length left)

    on : (q : ℤ) (i : ℕ) → i < n → q ≡ ahead d (place_numbered (64 * b + k)) i → cell_of (swept d s (stored b k left w right) n).ones q ≡ cell_of (ones_of x (symbols_of (left ++ w' ∷ reverse right))) q
    on q i less at =
        let first : place_numbered (64 * b + bit_ahead d k i) ≡ x +ℤ pos (64 * length left + bit_ahead d k i) = omega (arith, ints) in
        cell_swept d s (stored b k left w right) n i q less at
        ∙ sym (cell_of-between x left (reverse right) w' (bit_ahead d k i) q (bit_inside d k n i within room less) (at ∙ place_ahead d b k n i room less ∙ first) ∙ here i less)

    off : (q : ℤ) → ((i : ℕ) → i < n → q ≡ ahead d (place_numbered (64 * b + k)) i → ⊥) → cell_of (swept d s (stored b k left w right) n).ones q ≡ cell_of (ones_of x (symbols_of (left ++ w' ∷ reverse right))) q
    off q none =
        cell_kept d s (stored b k left w right) n q none
        ∙ by_word x q
        (λ before. blank_before x (symbols_of (left ++ w ∷ reverse right)) q before ∙ sym (blank_before x (symbols_of (left ++ w' ∷ reverse right)) q before))
        (λ m j inside e. cell_of-words x (left ++ w ∷ reverse right) m j q inside e
        ∙ ap bit_symbol (bit_around left (reverse right) w w' m j (λ same. sym (others j inside (λ i less bit. none i less (there m j i e same less bit)))))
        ∙ sym (cell_of-words x (left ++ w' ∷ reverse right) m j q inside e))
      where
        there : (m j i : ℕ) → q ≡ x +ℤ pos (64 * m + j) → m ≡ length left → i < n → j ≡ bit_ahead d k i → q ≡ ahead d (place_numbered (64 * b + k)) i
        there m j i e same less bit =
            let at : q ≡ place_numbered (64 * b + bit_ahead d k i) = omega (arith, ints, e, same, bit) in
            at ∙ sym (place_ahead d b k n i room less)

-- what a word holds after a sweep: the symbol in each cell gone over, and what it held in each other
abbrev pub IsSweptWord : Dir → Sym → ℕ → ℕ → ℕ → ℕ → Type 0
IsSweptWord d s k n w w' = ((i : ℕ) → i < n → bit_symbol (bit_at w' (bit_ahead d k i)) ≡ s) × ((j : ℕ) → j < 64 → ((i : ℕ) → i < n → j ≡ bit_ahead d k i → ⊥) → bit_at w' j ≡ bit_at w j)

-- sweeps that end in the word
pub left_swept : (s : Sym) (b k k' : ℕ) (left : List ℕ) (w w' : ℕ) (right : List ℕ) (n : ℕ) → k < 64 → k' + n ≡ k → IsSweptWord L s k n w w'
    → stored b k' left w' right ≡ swept L s (stored b k left w right) n
left_swept s b k k' left w w' right n within at word =
    same_tape _ _ (omega (arith, ints, at, swept_head L s (stored b k left w right) n)) (sym (swept-stored L s b k left w w' right n within (omega (arith, at)) word.0 word.1))

pub right_swept : (s : Sym) (b k k' : ℕ) (left : List ℕ) (w w' : ℕ) (right : List ℕ) (n : ℕ) → k' < 64 → k' ≡ k + n → IsSweptWord R s k n w w'
    → stored b k' left w' right ≡ swept R s (stored b k left w right) n
right_swept s b k k' left w w' right n within at word =
    same_tape _ _ (omega (arith, ints, at, swept_head R s (stored b k left w right) n)) (sym (swept-stored R s b k left w w' right n (omega (arith, at, within)) (omega (arith, at, within)) word.0 word.1))

-- sweeps to the edge of the word, and over it
pub left_swept-edge : (s : Sym) (b b' k : ℕ) (left left' right right' : List ℕ) (w w' next : ℕ) (n : ℕ) → k < 64 → n ≡ k + 1 → IsSweptWord L s k n w w' → b' + 1 ≡ b → IsNearest left next left' → right' ≡ right ++ w' ∷ []
    → stored b' 63 left' next right' ≡ swept L s (stored b k left w right) n
left_swept-edge s b b' k left left' right right' w w' next n within all word to nearest pushed =
    left_edge-nearest b b' left left' right right' w' next to nearest pushed
    ∙ same_tape _ _ (omega (arith, ints, all, swept_head L s (stored b k left w right) n)) (sym (swept-stored L s b k left w w' right n within (omega (arith, all)) word.0 word.1))

pub right_swept-edge : (s : Sym) (b b' k : ℕ) (left left' right right' : List ℕ) (w w' next : ℕ) (n : ℕ) → k < 64 → k + n ≡ 64 → IsSweptWord R s k n w w' → b' ≡ b + 1 → IsNearest right next right' → left' ≡ left ++ w' ∷ []
    → stored b' 0 left' next right' ≡ swept R s (stored b k left w right) n
right_swept-edge s b b' k left left' right right' w w' next n within all word to nearest pushed =
    right_edge-nearest b b' left left' right right' w' next to nearest pushed
    ∙ same_tape _ _ (omega (arith, ints, all, swept_head R s (stored b k left w right) n)) (sym (swept-stored R s b k left w w' right n within (omega (arith, all)) word.0 word.1))

-- bits that stand for one symbol are the same
same_bit : (a b : ℕ) → a < 2 → b < 2 → bit_symbol a ≡ bit_symbol b → a ≡ b
same_bit zero zero small small' same = refl
same_bit (suc zero) (suc zero) small small' same = refl
same_bit zero (suc b) small small' same = absurd cc
same_bit (suc a) zero small small' same = absurd cc
same_bit (suc (suc a)) b small small' same = absurd (omega (arith, small))
same_bit a (suc (suc b)) small small' same = absurd (omega (arith, small'))

-- a word has no more cells there, or one more
one_more : (d : Dir) (k n : ℕ) → HasCells d k n → HasAllCells d k n ⊎ HasCells d k (n + 1)
one_more L k n room = elim (cases_lt k n) [ inl all ↦ inl (omega (arith, room, all)) | inr more ↦ inr (omega (arith, more)) ]
one_more R k n room = elim (cases_lt 63 (k + n)) [ inl all ↦ inl (omega (arith, room, all)) | inr more ↦ inr (omega (arith, more)) ]

-- beyond all of them the head is past the edge
past_edge : (d : Dir) (s : Sym) (b k : ℕ) (left : List ℕ) (w : ℕ) (right : List ℕ) (n : ℕ) → HasAllCells d k n → IsPastEdge d (swept d s (stored b k left w right) n).head
past_edge L s b k left w right n all = (b, omega (arith, ints, all, swept_head L s (stored b k left w right) n))
past_edge R s b k left w right n all = (b + 1, omega (arith, ints, all, swept_head R s (stored b k left w right) n))

-- what the head reads after a sweep within the word
read_after : (d : Dir) (s : Sym) (b k : ℕ) (left : List ℕ) (w : ℕ) (right : List ℕ) (n : ℕ) → k < 64 → HasCells d k (n + 1)
    → symbol_read (swept d s (stored b k left w right) n) ≡ bit_symbol (bit_at w (bit_ahead d k n))
read_after d s b k left w right n within room =
    let less : n < n + 1 = omega arith in
    let first : place_numbered (64 * b) -ℤ pos (64 * length left) +ℤ pos (64 * length left + bit_ahead d k n) ≡ place_numbered (64 * b + bit_ahead d k n) = omega (arith, ints) in
    read_ahead d s (stored b k left w right) n
    ∙ cell_of-between _ left (reverse right) w (bit_ahead d k n) _ (bit_inside d k (n + 1) n within room less) (place_ahead d b k (n + 1) n room less ∙ sym first)

-- a sweep over as many like cells as the word has, or as the limit allows, ends as it should
pub sweep_ends : (d : Dir) (s : Sym) (b k : ℕ) (left : List ℕ) (w : ℕ) (right : List ℕ) (limit n : ℕ) → k < 64 → HasCells d k n
    → (n ≡ limit) ⊎ (HasAllCells d k n ⊎ (bit_at w (bit_ahead d k n) ≢ bit_at w k)) → EndsSweep d limit (stored b k left w right) n (swept d s (stored b k left w right) n)
sweep_ends d s b k left w right limit n within room ends = elim ends [
  | inl most ↦ inl most
  | inr (inl all) ↦ inr (inr (past_edge d s b k left w right n all))
  | inr (inr unlike) ↦ elim (one_more d k n room) [
    | inl all ↦ inr (inr (past_edge d s b k left w right n all))
    | inr more ↦ inr (inl (λ same. unlike (same_bit _ _ (bit_at-lt w (bit_ahead d k n)) (bit_at-lt w k)
        (sym (read_after d s b k left w right n within more) ∙ same ∙ symbol_read-stored b k left w right within))))
  ]
]

-- the lesser of two counts is one of them
pub lesser : (count like limit : ℕ) (A : ℕ → Type 0) → count ≤ like → count ≤ limit → (count < like → count ≡ limit) → A like → (count ≡ limit) ⊎ A count
lesser count like limit A fewer within is holds =
    elim (cases_lt count like) [
      | inl less ↦ inl (is less)
      | inr same ↦ inr (subst A (let all : like ≡ count = omega (arith, fewer, same) in all) holds)
    ]

-- Sixteen cells of a stored tape, and what is left of it where they are others.

-- a word with other sixteen cells
pub record IsOtherIn (low cells w w' : ℕ) : Type 0 where
  pub here : (i : ℕ) → i < 16 → bit_at w' (low + i) ≡ bit_at cells i
  pub others : (j : ℕ) → j < 64 → ((i : ℕ) → i < 16 → j ≢ low + i) → bit_at w' j ≡ bit_at w j

-- the sixteen bits of a word from one of them on
pub window_bits : (w low i : ℕ) → i < 16 → bit_at (bit_and (w / 2 ^ low) 65535) i ≡ bit_at w (low + i)
window_bits w low i less =
    omega (arith, bit_at_and (w / 2 ^ low) 65535 i, bit_at_ones 16 i less, shifted_down w low i, bit_at-lt (w / 2 ^ low) i)

-- they are those of another cells, and all others as they are
abbrev pub other_cells : ℕ → ℕ → ℕ → ℕ
other_cells w low cells = bit_or (bit_and w (bit_not w64 (65535 * 2 ^ low % 2 ^ 64))) (cells * 2 ^ low % 2 ^ 64)

module _ (w low cells : ℕ) (masked : 65535 * 2 ^ low % 2 ^ 64 < 2 ^ 64) where
  abbrev kept : ℕ
  kept = bit_not w64 (65535 * 2 ^ low % 2 ^ 64)

  bits_at : (j : ℕ) → j < 64 → bit_at (other_cells w low cells) j ≡ max (min (bit_at w j) (1 - bit_at (65535 * 2 ^ low % 2 ^ 64) j)) (bit_at (cells * 2 ^ low % 2 ^ 64) j)
  bits_at j inside =
      omega (arith, bit_at_or (bit_and w kept) (cells * 2 ^ low % 2 ^ 64) j, bit_at_and w kept j, bit_at_not w64 (65535 * 2 ^ low % 2 ^ 64) j masked inside)

  pub other_here : low + 16 ≤ 64 → (i : ℕ) → i < 16 → bit_at (other_cells w low cells) (low + i) ≡ bit_at cells i
  other_here room i less =
      let inside : low + i < 64 = omega (arith, room, less) in
      let at : low + i - low ≡ i = omega arith in
      let mask : bit_at (65535 * 2 ^ low % 2 ^ 64) (low + i) ≡ 1 = moved_up 65535 low (low + i) (omega arith) inside ∙ ap (bit_at 65535) at ∙ bit_at_ones 16 i less in
      let up : bit_at (cells * 2 ^ low % 2 ^ 64) (low + i) ≡ bit_at cells i = moved_up cells low (low + i) (omega arith) inside ∙ ap (bit_at cells) at in
      omega (arith, bits_at (low + i) inside, mask, up)

  pub other_others : cells < 65536 → (j : ℕ) → j < 64 → ((i : ℕ) → i < 16 → j ≢ low + i) → bit_at (other_cells w low cells) j ≡ bit_at w j
  other_others small j inside none = elim (cases_lt j low) [
    | inl below ↦ omega (arith, bits_at j inside, moved_up-below 65535 low j below inside, moved_up-below cells low j below inside, bit_at-lt w j)
    | inr from ↦
        let beyond : 16 ≤ j - low = elim (cases_lt (j - low) 16) [ inl near ↦ absurd (none (j - low) near (omega (arith, from))) | inr far ↦ far ] in
        let mask : bit_at (65535 * 2 ^ low % 2 ^ 64) j ≡ 0 = moved_up 65535 low j from inside ∙ bit_at_ones_above 16 (j - low) beyond in
        let up : bit_at (cells * 2 ^ low % 2 ^ 64) j ≡ 0 = moved_up cells low j from inside ∙ bit_at_above cells 16 (j - low) small beyond in
        omega (arith, bits_at j inside, mask, up, bit_at-lt w j)
  ]

-- the sixteen cells of a stored tape
pub window-stored : (b low : ℕ) (left : List ℕ) (w : ℕ) (right : List ℕ) (cells : ℕ) (x : ℤ) → low + 16 ≤ 64 → x ≡ place_numbered (64 * b + low) → ((i : ℕ) → i < 16 → bit_at cells i ≡ bit_at w (low + i))
    → HoldsCells (ones_of (place_numbered (64 * b) -ℤ pos (64 * length left)) (symbols_of (left ++ w ∷ reverse right))) x cells
window-stored b low left w right cells x room at bits i less =
    cell_of-between _ left (reverse right) w (low + i) _ (omega (arith, room, less)) (omega (arith, ints, at, room, less))
    ∙ ap bit_symbol (sym (bits i less))

-- all others where the word is another there
same_but-stored : (b low : ℕ) (left : List ℕ) (w w' : ℕ) (right : List ℕ) (cells : ℕ) (x : ℤ) → x ≡ place_numbered (64 * b + low) → IsOtherIn low cells w w'
    → SameBut x (ones_of (place_numbered (64 * b) -ℤ pos (64 * length left)) (symbols_of (left ++ w ∷ reverse right))) (ones_of (place_numbered (64 * b) -ℤ pos (64 * length left)) (symbols_of (left ++ w' ∷ reverse right)))
same_but-stored b low left w w' right cells x at word y apart =
    by_word first y
    (λ before. blank_before first (symbols_of (left ++ w' ∷ reverse right)) y before ∙ sym (blank_before first (symbols_of (left ++ w ∷ reverse right)) y before))
    (λ m j inside e. cell_of-words first (left ++ w' ∷ reverse right) m j y inside e
    ∙ ap bit_symbol (sym (bit_around left (reverse right) w w' m j (λ same. sym (word.others j inside (λ i less bit. apart i less (there m j i e same bit))))))
    ∙ sym (cell_of-words first (left ++ w ∷ reverse right) m j y inside e))
  where
    first : ℤ
    first = place_numbered (64 * b) -ℤ pos (64 * length left)

    there : (m j i : ℕ) → y ≡ first +ℤ pos (64 * m + j) → m ≡ length left → j ≡ low + i → y ≡ x +ℤ pos i
    there m j i e same bit = omega (arith, ints, e, same, bit, at)

-- a tape whose word is another there, and whose head stands beyond it
pub crossed : (d : Dir) (b k low at : ℕ) (left : List ℕ) (w w' : ℕ) (right : List ℕ) (cells : ℕ) (new : Tape) → low + 16 ≤ 64 → k ≡ low + at → IsOtherIn low cells w w'
    → new.head ≡ place_beyond d (place_numbered (64 * b + low)) → new.ones ≡ ones_of (place_numbered (64 * b) -ℤ pos (64 * length left)) (symbols_of (left ++ w' ∷ reverse right))
    → Crosses at cells d (stored b k left w right) new
crossed d b k low at left w w' right cells new room is word head ones =
    let x : place_numbered (64 * b + k) -ℤ pos at ≡ place_numbered (64 * b + low) = omega (arith, ints, is) in
    record {
      head = head ∙ ap (place_beyond d) (sym x);
      holds = λ i less. ap (λ o. cell_of o (place_numbered (64 * b + k) -ℤ pos at +ℤ pos i)) ones ∙ window-stored b low left w' right cells (place_numbered (64 * b + k) -ℤ pos at) room x (λ j within. sym (word.here j within)) i less;
      others = λ y apart. ap (λ o. cell_of o y) ones ∙ same_but-stored b low left w w' right cells (place_numbered (64 * b + k) -ℤ pos at) x word y apart;
    }

-- the same of a tape that is stored so, and of one that is that tape moved to a side
pub crossed_by : (d : Dir) (b k low at : ℕ) (left : List ℕ) (w w' : ℕ) (right : List ℕ) (cells : ℕ) (old mid new : Tape) → stored b k left w right ≡ old → new ≡ mid → low + 16 ≤ 64 → k ≡ low + at → IsOtherIn low cells w w'
    → mid.head ≡ place_beyond d (place_numbered (64 * b + low)) → mid.ones ≡ ones_of (place_numbered (64 * b) -ℤ pos (64 * length left)) (symbols_of (left ++ w' ∷ reverse right))
    → Crosses at cells d old new
crossed_by d b k low at left w w' right cells old mid new was is room there word head ones =
    subst (λ (t : Tape). Crosses at cells d t new) was (subst (λ (u : Tape). Crosses at cells d (stored b k left w right) u) (sym is) (crossed d b k low at left w w' right cells mid room there word head ones))
